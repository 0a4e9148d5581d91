-- What the reader's results say.
use Rattle.std.specs.Prelude.{List, ◌≡◌, ℕ, ◌≤◌, length, Result, Ok, Err, ⊤}
use Rattle.form.specs.Numbers.{word_at}
use Rattle.form.specs.Refusals.{Verdict, fine, fault, Answer, answer, answer_of, number_of, place_of}
use Rattle.form.specs.declared.Fault.{Fault}
use Rattle.network.specs.Network.{edition}
use Rattle.network.specs.Faults.{entries_fault, section_fault}
use Rattle.network.specs.Layout.{Sound}
use Rattle.network.specs.declared.Sections.{Sections}

-- A test's verdict,
abbrev pub verdict_of : Result ⊤ Fault → Verdict
verdict_of (Ok x) = fine
verdict_of (Err f) = fault (number_of f) (place_of f)

-- a section's count or fault,
abbrev pub count_of : Result ℕ Fault → Answer ℕ
count_of r = answer_of r

-- a file's sections or fault.
abbrev pub checked_of : Result Sections Fault → Answer Sections
checked_of r = answer_of r

-- The entries of a section from a place on, the first of them entry k, by their size and the verdict on each.
abbrev pub entries_test : ℕ → (List ℕ → ℕ → ℕ → Verdict) → List ℕ → ℕ → ℕ → ℕ → Verdict
entries_test size verdict = entries_fault size verdict

-- What reading a section finds.
abbrev pub section_count : ℕ → ℕ → (List ℕ → ℕ → ℕ → Verdict) → List ℕ → ℕ → Answer ℕ
section_count limit size verdict s at = answer (section_fault limit size verdict s at) (word_at s at)

-- Wherever the answer accepts, the file is sound; the longest accepted file has 6,656 bytes.
pub record Told (s : List ℕ) (r : Result Sections Fault) : Type 0 where
  pub sound : (found : Sections) → r ≡ Ok found → Sound edition s found
  pub longest : (found : Sections) → r ≡ Ok found → length s ≤ 6656
