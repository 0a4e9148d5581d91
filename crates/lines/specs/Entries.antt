-- The entries of a section as the program reads them, and their lines.
use Rattle.std.specs.Prelude.{◌≡◌, refl, List, ◌++◌, ℕ, zero, suc, ◌+◌}
use Rattle.std.proofs.Common.{ap}
use Rattle.form.specs.Numbers.{word_at}
use Rattle.network.specs.Network.{vertex_size, entries_of, section_of}
use Rattle.stored.specs.Stored.{step_size, step_at}
use Rattle.lines.specs.Lines.{pivot_line, vertex_line, lines}
use Rattle.lines.specs.declared.Answer.{Answer}
use Rattle.lines.specs.declared.Pivot.{Pivot}

-- A pivot at a place, and its line;
abbrev pub pivot_at : List ℕ → ℕ → Pivot
pivot_at s at = record { vertex = word_at s at; degree = word_at s (at + 2) }

abbrev pub line_of_pivot : ℕ → Pivot → List ℕ
line_of_pivot k p = pivot_line k (record { vertex = p.vertex; degree = p.degree })

-- an answer at a place, and its line.
abbrev pub answer_at : List ℕ → ℕ → Answer
answer_at s at = record { formula = word_at s at }

abbrev pub line_of_answer : ℕ → Answer → List ℕ
line_of_answer v a = vertex_line v a.formula

-- Entries have the lines of what they show.
same_lines : {A B : Type 0} (shown : A → B) (line : ℕ → B → List ℕ) (entry : ℕ → A) (size at n k : ℕ)
    → lines (λ j x. line j (shown x)) k (entries_of entry size at n) ≡ lines line k (entries_of (λ p. shown (entry p)) size at n)
unfolding lines entries_of
same_lines shown line entry size at zero k = refl
same_lines shown line entry size at (suc n) k =
    ap (λ (t : List ℕ). line k (shown (entry at)) ++ t) (same_lines shown line entry size (at + size) n (k + 1))

pub pivot_lines : (s : List ℕ) (at : ℕ)
    → lines line_of_pivot 0 (section_of pivot_at step_size s at) ≡ lines pivot_line 0 (section_of step_at step_size s at)
pivot_lines s at =
    same_lines (λ (p : Pivot). record { vertex = p.vertex; degree = p.degree }) pivot_line (pivot_at s) step_size (at + 2) (word_at s at) 0

pub answer_lines : (s : List ℕ) (at : ℕ)
    → lines line_of_answer 0 (section_of answer_at vertex_size s at) ≡ lines vertex_line 0 (section_of word_at vertex_size s at)
answer_lines s at = same_lines (λ (a : Answer). a.formula) vertex_line (answer_at s) vertex_size (at + 2) (word_at s at) 0
