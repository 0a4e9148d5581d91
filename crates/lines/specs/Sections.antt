-- The lines of a result in the terms that the program has, and that they fit one after another.
use Rattle.std.specs.Prelude.{◌≡◌, List, ◌++◌, ℕ, ◌+◌, ◌*◌, ◌<◌, ◌≤◌, length, get_or}
use Rattle.std.proofs.Common.{ap, ◌∙◌, arith, length-append}
use Rattle.std.proofs.Math.Path.{sym}
use Rattle.analysis.specs.Result.{Stored}
use Rattle.form.specs.Numbers.{word_at}
use Rattle.form.specs.References.{formula}
use Rattle.network.specs.Lists.{entries_length, entries_at}
use Rattle.network.specs.Network.{variable_size, given_size, vertex_size, givens_at, vertices_at, given_at, section_of}
use Rattle.stored.specs.Stored.{step_size, figure_size, order_at, figures_at, stored_of, joins_figure, work_figure}
use Rattle.text.specs.Puts.{Puts}
use Rattle.text.specs.Putting.{puts_both}
use Rattle.lines.specs.Entries.{pivot_at, line_of_pivot, answer_at, line_of_answer, pivot_lines, answer_lines}
use Rattle.lines.specs.Lines.{counts_line, pivot_line, record_line, vertex_line, lines, result_lines}
use Rattle.lines.specs.Parts.{Laid}
use Rattle.lines.specs.Putting.{counts_room, counts_long, records_shorter}
use Rattle.lines.specs.declared.Parts.{Parts}
use Rattle.lines.specs.declared.Section.{Section}

-- The lines after the first, for so many variables.
unfoldable pub section_lines : ℕ → Stored → List ℕ
section_lines p r = lines pivot_line 0 r.order ++ (lines record_line (formula p 0) r.records ++ lines vertex_line 0 r.answers)

-- Their room, section by section.
abbrev pub sections_room : ℕ → Stored → ℕ
sections_room p r =
    length (lines pivot_line 0 r.order) + (length (lines record_line (formula p 0) r.records) + length (lines vertex_line 0 r.answers))

sections_long : (p : ℕ) (r : Stored) → length (section_lines p r) ≡ sections_room p r
unfolding section_lines
sections_long p r = simp length-append

module _ (s : List ℕ) (parts : Parts) (laid : Laid s parts) where
  -- What is put of each section.
  abbrev pivots : List ℕ
  pivots = lines line_of_pivot 0 (section_of pivot_at step_size s parts.order.place)

  abbrev records_from : ℕ → List ℕ
  records_from first = lines record_line first (section_of given_at given_size s parts.records.place)

  abbrev records : List ℕ
  records = records_from (2 + parts.variables)

  abbrev answers : List ℕ
  answers = lines line_of_answer 0 (section_of answer_at vertex_size s parts.answers.place)

  pivots_put : pivots ≡ lines pivot_line 0 (stored_of s).order
  unfolding stored_of
  pivots_put = rw laid.order (pivot_lines s (order_at s))

  records_put : records ≡ lines record_line (formula parts.variables 0) (stored_of s).records
  unfolding stored_of
  records_put = rw laid.records (ap (λ (k : ℕ). lines record_line k (section_of given_at given_size s (givens_at s))) (omega arith))

  answers_put : answers ≡ lines vertex_line 0 (stored_of s).answers
  unfolding stored_of
  answers_put = rw laid.answers (answer_lines s (vertices_at s))

  -- They fit one after another.
  module _ (at : ℕ) (b₀ : List ℕ) (fits : at + sections_room parts.variables (stored_of s) ≤ length b₀) where
    all_fit : at + (length pivots + (length records + length answers)) ≤ length b₀
    all_fit = rw (pivots_put, records_put, answers_put) fits

    pub pivots_fit : at + length pivots ≤ length b₀
    pivots_fit = omega (arith, all_fit)

    module _ (b₁ : List ℕ) (m₁ : ℕ) (p₁ : Puts pivots at b₀ b₁ m₁) where
      -- Records that are numbered from a smaller reference on take no more room.
      module _ (first : ℕ) (low : first ≤ 2 + parts.variables) where
        short : length (records_from first) ≤ length records
        short = records_shorter first (2 + parts.variables) (section_of given_at given_size s parts.records.place) low

        pub records_fit : m₁ + length (records_from first) ≤ length b₁
        records_fit = omega (arith, all_fit, short)

        pub answers_fit : (b₂ : List ℕ) (m₂ : ℕ) → Puts (records_from first) m₁ b₁ b₂ m₂ → m₂ + length answers ≤ length b₂
        answers_fit b₂ m₂ p₂ = omega (arith, all_fit, short)

      pub sections_put : (b₂ : List ℕ) (m₂ : ℕ) → Puts records m₁ b₁ b₂ m₂ → (b₃ : List ℕ) (r : ℕ) → Puts answers m₂ b₂ b₃ r
          → Puts (section_lines parts.variables (stored_of s)) at b₀ b₃ r
      unfolding section_lines
      sections_put b₂ m₂ p₂ b₃ r p₃ =
          rw (← pivots_put, ← records_put, ← answers_put)
          (puts_both pivots (records ++ answers) at b₀ b₁ m₁ p₁ b₃ r (puts_both records answers m₁ b₁ b₂ m₂ p₂ b₃ r p₃))

module _ (s : List ℕ) (parts : Parts) (laid : Laid s parts) where
  -- The counts and figures.
  variables_are : length (stored_of s).variables ≡ parts.variables
  unfolding stored_of
  variables_are = entries_length (word_at s) variable_size 2 (word_at s 0) ∙ sym laid.variables

  records_are : length (stored_of s).records ≡ parts.records.count
  unfolding stored_of
  records_are = entries_length (given_at s) given_size (givens_at s + 2) (word_at s (givens_at s)) ∙ ap (λ (x : Section). x.count) (sym laid.records)

  answers_are : length (stored_of s).answers ≡ parts.answers.count
  unfolding stored_of
  answers_are = entries_length (word_at s) vertex_size (vertices_at s + 2) (word_at s (vertices_at s)) ∙ ap (λ (x : Section). x.count) (sym laid.answers)

  figure : (k place : ℕ) → k < 3 → place ≡ figures_at s + 2 + 2 * k → get_or (stored_of s).figures k 0 ≡ word_at s place
  unfolding stored_of
  figure k place h e = rw e (entries_at (word_at s) figure_size (figures_at s + 2) (word_at s (figures_at s)) k 0 (omega (arith, laid.whole.three)))

  joins_are : joins_figure (stored_of s) ≡ parts.joins
  joins_are = figure 1 (figures_at s + 4) (omega arith) (omega arith) ∙ sym laid.joins

  work_are : work_figure (stored_of s) ≡ parts.work
  work_are = figure 2 (figures_at s + 6) (omega arith) (omega arith) ∙ sym laid.work

  -- The first line and those after it.
  module _ (switches : ℕ) where
    abbrev counts : List ℕ
    counts = counts_line parts.answers.count switches parts.joins parts.work parts.records.count

    abbrev sections : List ℕ
    sections = section_lines parts.variables (stored_of s)

    result_lines_lem : result_lines switches (stored_of s) ≡ counts ++ sections
    unfolding result_lines section_lines
    result_lines_lem = rw (variables_are, records_are, answers_are, joins_are, work_are)

    abbrev counts_take : ℕ
    counts_take = counts_room parts.answers.count switches parts.joins parts.work parts.records.count

    abbrev sections_take : ℕ
    sections_take = sections_room parts.variables (stored_of s)

    module _ (b₀ : List ℕ) (fits : length (result_lines switches (stored_of s)) ≤ length b₀) where
      both_fit : counts_take + sections_take ≤ length b₀
      both_fit =
          omega (
            arith,
            ap length result_lines_lem,
            length-append counts sections,
            counts_long parts.answers.count switches parts.joins parts.work parts.records.count,
            sections_long parts.variables (stored_of s),
          )

      pub result_first : counts_take ≤ length b₀
      result_first = omega (arith, both_fit)

      module _ (b₁ : List ℕ) (m₁ : ℕ) (p₁ : Puts counts 0 b₀ b₁ m₁) where
        pub result_last : m₁ + sections_take ≤ length b₁
        result_last = omega (arith, both_fit, counts_long parts.answers.count switches parts.joins parts.work parts.records.count)

        pub result_put : (b₂ : List ℕ) (r : ℕ) → Puts sections m₁ b₁ b₂ r → Puts (result_lines switches (stored_of s)) 0 b₀ b₂ r
        result_put b₂ r p₂ = rw result_lines_lem (puts_both counts sections 0 b₀ b₁ m₁ p₁ b₂ r p₂)
