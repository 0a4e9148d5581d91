-- What a test that is passed to the reader's loop may be called on, and finds.
use Rattle.std.specs.Prelude.{List, ◌≡◌, ℕ, ◌+◌, ◌<◌, ◌≤◌, length, Result, ⊤}
use Rattle.form.specs.Refusals.{Verdict}
use Rattle.form.specs.declared.Fault.{Fault}
use Rattle.reader.specs.Answers.{verdict_of}

module _ (size : ℕ) (s : List ℕ) where
  -- Entry k stands complete at a place behind a count, and k is below any 16-bit count.
  pub record Complete (at k : ℕ) : Type 0 where
    pub past : 2 ≤ at
    pub whole : at + size ≤ length s
    pub few : k < 65536

  -- The test may be made of each complete entry,
  abbrev pub Callable : (ℕ → ℕ → Type 0) → Type 0
  Callable pre = (at k : ℕ) → Complete at k → pre at k

  -- and then finds the verdict.
  abbrev pub Finds : (ℕ → ℕ → Result ⊤ Fault → Type 0) → (List ℕ → ℕ → ℕ → Verdict) → Type 0
  Finds post verdict = (at k : ℕ) (r : Result ⊤ Fault) → Complete at k → post at k r → verdict_of r ≡ verdict s at k
