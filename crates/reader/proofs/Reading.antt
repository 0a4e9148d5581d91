-- The loop over the entries of a section: what is left to read gives the verdict on the whole.
use Rattle.std.specs.Prelude.{Result, Ok, Err, ⊤}
use Rattle.std.proofs.Common.{◌≡◌, List, ℕ, zero, suc, ◌+◌, ◌-◌, ◌<◌, ◌≤◌, length, arith}
use native.Mathlib.Nat.{sub-zero}
use Rattle.form.specs.Refusals.{Verdict, fine, fault, first_of}
use Rattle.form.specs.declared.Fault.{Fault}
use Rattle.network.specs.Faults.{cut_fault, entries_fault}
use Rattle.network.specs.Verdicts.{cut, whole}
use Rattle.reader.specs.Answers.{verdict_of}
use Rattle.reader.specs.Tests.{Finds}

-- Entry k begins at a place, and the entries from it on give the verdict on all of a section's entries, by what the test finds.
pub record Reading (size : ℕ) (s : List ℕ) (post : ℕ → ℕ → Result ⊤ Fault → Type 0) (start at k count : ℕ) : Type 0 where
  pub past : 2 ≤ at
  pub inside : at ≤ length s
  pub rest : (verdict : List ℕ → ℕ → ℕ → Verdict) → Finds size s post verdict
      → entries_fault size verdict s at k (count - k) ≡ entries_fault size verdict s start 0 count

module _ (size : ℕ) (s : List ℕ) (post : ℕ → ℕ → Result ⊤ Fault → Type 0) where
  pub none : (at count : ℕ) → 2 ≤ at → at ≤ length s → Reading size s post at at 0 count
  none at count h l = record { past = h; inside = l; rest = λ verdict f. rw sub-zero }

  module _ (start at k count : ℕ) (r : Reading size s post start at k count) where
    pub done : count ≤ k → (verdict : List ℕ → ℕ → ℕ → Verdict) → Finds size s post verdict → fine ≡ entries_fault size verdict s start 0 count
    unfolding entries_fault
    done h verdict f = let e : count - k ≡ zero = omega arith in rw e at (r.rest verdict f)

    module _ (more : k < count) where
      step : (verdict : List ℕ → ℕ → ℕ → Verdict) → Finds size s post verdict
          → first_of (cut_fault size s at) (first_of (verdict s at k) (entries_fault size verdict s (at + size) (k + 1) (count - (k + 1))))
          ≡ entries_fault size verdict s start 0 count
      unfolding entries_fault
      step verdict f = let e : count - k ≡ suc (count - (k + 1)) = omega arith in rw e at (r.rest verdict f)

      pub stop_cut : length s < at + size → (verdict : List ℕ → ℕ → ℕ → Verdict) → Finds size s post verdict → fault 1 at ≡ entries_fault size verdict s start 0 count
      stop_cut l verdict f = rw (← cut s at size l) at (step verdict f)

      module _ (few : count < 65536) (l : at + size ≤ length s) where
        found : (t : Result ⊤ Fault) → post at k t → (verdict : List ℕ → ℕ → ℕ → Verdict) → Finds size s post verdict
            → first_of (verdict_of t) (entries_fault size verdict s (at + size) (k + 1) (count - (k + 1))) ≡ entries_fault size verdict s start 0 count
        found t e verdict f =
            let v = f at k t (record { past = r.past; whole = l; few = omega arith }) e in
            rw (← whole s at size l, ← v) at (step verdict f)

        pub stop_wrong : (x : Fault) → post at k (Err x) → (verdict : List ℕ → ℕ → ℕ → Verdict) → Finds size s post verdict
            → verdict_of (Err x) ≡ entries_fault size verdict s start 0 count
        stop_wrong x e verdict f = found (Err x) e verdict f

        pub go_on : (x : ⊤) → post at k (Ok x) → Reading size s post start (at + size) (k + 1) count
        go_on x e = record { past = omega (arith, r.past); inside = l; rest = found (Ok x) e }
