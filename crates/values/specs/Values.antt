-- The program's array of values: a truth for each reference.
use Rattle.std.specs.Prelude.{◌≡◌, Bool, false, List, ℕ, ◌<◌, length, get_or}
use Rattle.std.proofs.Common.{arith}
use Rattle.form.specs.References.{formula}
use Rattle.form.specs.declared.Record.{Record}
use Rattle.formula.specs.Worth.{operate}
use Rattle.network.specs.declared.Sections.{Sections}
use Rattle.network.specs.Layout.{Layout, Within, GivenRead}
use Rattle.network.specs.Ranges.{second_in}
use Rattle.network.specs.Network.{edition}

-- The value that the array gives a reference.
unfoldable pub value_in : List Bool → ℕ → Bool
value_in values = λ r. get_or values r false

-- The array has a place for each reference that a file can have.
abbrev pub places : ℕ
places = formula edition.variables edition.givens

-- The array holds these values.
pub record Holds (value : ℕ → Bool) (values : List Bool) : Type 0 where
  pub is : value_in values ≡ value
  pub long : length values ≡ places

-- The truth of a given formula, from the values of its arguments.
unfoldable pub gate_bit : List Bool → Record → Bool
gate_bit values g = operate g.kind (value_in values g.first) (value_in values g.second)

-- The arguments of a given formula have a place in the array.
pub record Small (g : Record) : Type 0 where
  pub first : g.first < places
  pub second : g.second < places

-- A given formula that was read has its arguments in the array.
pub given_small :
    (s : List ℕ) (parts : Sections) →
    Layout s parts →
    Within edition parts →
    (k : ℕ) →
    k < parts.givens →
    (g : Record) →
    GivenRead s parts k g →
    Small g
given_small s parts layout within k h g read =
    let b = second_in (formula parts.variables k) g (omega arith) read.range in
    record { first = omega (arith, read.range.first); second = omega arith }
