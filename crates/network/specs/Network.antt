-- The network form: four sections, and the network that a file without a fault says.
use Rattle.std.specs.Prelude.{List, [], ◌∷◌, ℕ, zero, suc, ◌+◌, ◌*◌}
use Rattle.form.specs.Numbers.{word_at}
use Rattle.form.specs.declared.Record.{Record}
use Rattle.network.specs.declared.Limits.{Limits}
use Rattle.network.specs.declared.Switch.{Switch}

-- The limits of this edition.
abbrev pub edition : Limits
edition = record { variables = 200; givens = 500; vertices = 24; switches = 400 }

-- The width of the tables by vertex.
abbrev pub side : ℕ
side = edition.vertices

-- The bytes of an entry of each section.
abbrev pub variable_size : ℕ
variable_size = 2

abbrev pub given_size : ℕ
given_size = 6

abbrev pub vertex_size : ℕ
vertex_size = 2

abbrev pub switch_size : ℕ
switch_size = 8

-- Four sections in this order, each after its count: where the section ends whose count is at a place,
abbrev pub after : ℕ → List ℕ → ℕ → ℕ
after size s at = at + 2 + size * word_at s at

-- and so where each section's count is, and where the file ends.
abbrev pub variables_at : ℕ
variables_at = 0

abbrev pub givens_at : List ℕ → ℕ
givens_at s = after variable_size s variables_at

abbrev pub vertices_at : List ℕ → ℕ
vertices_at s = after given_size s (givens_at s)

abbrev pub switches_at : List ℕ → ℕ
switches_at s = after vertex_size s (vertices_at s)

abbrev pub end_at : List ℕ → ℕ
end_at s = after switch_size s (switches_at s)

-- Coil numbers, given formulas, starting formulas, switches.
pub record Network : Type 0 where
  pub variables : List ℕ
  pub givens : List Record
  pub starts : List ℕ
  pub switches : List Switch

-- A given formula: kind, first argument, second argument.
abbrev pub given_at : List ℕ → ℕ → Record
given_at s at = record { kind = word_at s at; first = word_at s (at + 2); second = word_at s (at + 4) }

-- A switch: first end, second end, label first to second, label second to first.
abbrev pub switch_at : List ℕ → ℕ → Switch
switch_at s at =
    record { first = word_at s at; second = word_at s (at + 2); there = word_at s (at + 4); back = word_at s (at + 6) }

-- The entries from a place on, as many as are left.
unfoldable pub entries_of : {A : Type 0} → (ℕ → A) → ℕ → ℕ → ℕ → List A
entries_of entry size at zero = []
entries_of entry size at (suc left) = entry at ∷ entries_of entry size (at + size) left

-- The entries of the section whose count is at a place.
abbrev pub section_of : {A : Type 0} → (List ℕ → ℕ → A) → ℕ → List ℕ → ℕ → List A
section_of entry size s at = entries_of (entry s) size (at + 2) (word_at s at)

-- The network of a file that has no fault.
unfoldable pub network_of : List ℕ → Network
network_of s =
    record {
      variables = section_of word_at variable_size s variables_at;
      givens = section_of given_at given_size s (givens_at s);
      starts = section_of word_at vertex_size s (vertices_at s);
      switches = section_of switch_at switch_size s (switches_at s);
    }
