-- A result's bytes, as the program reads them.
use Rattle.std.specs.Prelude.{◌≡◌, List, ℕ, ◌+◌, ◌≤◌, length}
use Rattle.form.specs.Numbers.{word_at}
use Rattle.network.specs.Network.{variables_at, givens_at, vertices_at}
use Rattle.stored.specs.Stored.{order_at, figures_at}
use Rattle.lines.specs.declared.Parts.{Parts}
use Rattle.lines.specs.declared.Section.{Section}

-- The five sections are there, and there are three figures.
pub record Whole (s : List ℕ) : Type 0 where
  pub room : figures_at s + 8 ≤ length s
  pub three : word_at s (figures_at s) ≡ 3

-- The section whose count is at a place.
abbrev pub section_at : List ℕ → ℕ → Section
section_at s at = record { place = at; count = word_at s at }

-- The counts of a result, where they are, and its figures.
pub record Laid (s : List ℕ) (parts : Parts) : Type 0 where
  pub whole : Whole s
  pub variables : parts.variables ≡ word_at s variables_at
  pub records : parts.records ≡ section_at s (givens_at s)
  pub answers : parts.answers ≡ section_at s (vertices_at s)
  pub order : parts.order ≡ section_at s (order_at s)
  pub joins : parts.joins ≡ word_at s (figures_at s + 4)
  pub work : parts.work ≡ word_at s (figures_at s + 6)
