-- The verdict on a section, from its count and its entries; and what a section that was read tells.
use Rattle.std.specs.Prelude.{Result, Ok, Err}
use Rattle.std.proofs.Common.{◌≡◌, List, ℕ, ◌+◌, ◌<◌, ◌≤◌, length, arith}
use Rattle.form.specs.Numbers.{word_at}
use Rattle.form.specs.Refusals.{Verdict, fine, fault, refused, answer, number_of, place_of}
use Rattle.form.specs.Verdicts.{accepts, refuses}
use Rattle.form.specs.declared.Fault.{Fault}
use Rattle.network.specs.Faults.{entries_fault, section_fault}
use Rattle.network.specs.Verdicts.{cut, whole, count_over, count_fits}
use Rattle.reader.specs.Answers.{count_of, section_count}

module _ (limit size : ℕ) (test : List ℕ → ℕ → ℕ → Verdict) (s : List ℕ) (at : ℕ) where
  -- The ways out of `read_section`.
  pub section_cut : length s < at + 2 → refused 1 at ≡ answer (section_fault limit size test s at) (word_at s at)
  unfolding section_fault
  section_cut h = rw (← cut s at 2 h)

  pub section_over : at + 2 ≤ length s → limit < word_at s at → refused 2 at ≡ answer (section_fault limit size test s at) (word_at s at)
  unfolding section_fault
  section_over h l = rw (← whole s at 2 h, ← count_over s at limit l)

  pub section_entries : {v : Verdict} {count : ℕ} → count ≡ word_at s at → at + 2 ≤ length s → count ≤ limit
      → v ≡ entries_fault size test s (at + 2) 0 count → answer v count ≡ answer (section_fault limit size test s at) (word_at s at)
  unfolding section_fault
  section_entries w h l e = rw (← whole s at 2 h, ← count_fits s at limit (omega arith), e, w)

  -- What was read is the section's answer:
  pub record Count (r : Result ℕ Fault) : Type 0 where
    pub is : count_of r ≡ section_count limit size test s at

  -- nothing is wrong with it, and its count is known;
  pub record Passed (n : ℕ) : Type 0 where
    pub good : fine ≡ section_fault limit size test s at
    pub count : n ≡ word_at s at

  pub passed : {r : Result ℕ Fault} {n : ℕ} → r ≡ Ok n → Count r → Passed n
  passed e c = let h = accepts _ _ _ (rw e at c.is) in record { good = h.0; count = h.1 }

  -- or its fault is.
  pub stopped : {r : Result ℕ Fault} {f : Fault} → r ≡ Err f → Count r → fault (number_of f) (place_of f) ≡ section_fault limit size test s at
  stopped e c = refuses _ _ _ _ (rw e at c.is)
