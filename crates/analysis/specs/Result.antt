-- The result form.
use mathlib.Core.List.{List, [], ◌∷◌, ◌++◌, map, flat_map}
use Rattle.std.specs.Prelude.{ℕ, length}
use Rattle.elimination.specs.Plan.{plan_of, work_of}
use Rattle.form.specs.Numbers.{bytes_of}
use Rattle.form.specs.References.{record_entry}
use Rattle.form.specs.declared.Record.{Record}
use Rattle.links.specs.Lists.{vertices}
use Rattle.links.specs.Links.{Step, order, steps}
use Rattle.links.specs.Switches.{links_of, joins_of}
use Rattle.network.specs.Network.{Network}
use Rattle.sheet.specs.Perform.{Sheet, perform}
use Rattle.sheet.specs.declared.Cell.TheVariants.{Start}
use Rattle.analysis.specs.Wiring.{wired}

-- The sheet at the end: the plan of the bare links, carried out on the starts and labels.
unfoldable pub eliminated : Network → Sheet
eliminated net = perform (length net.variables) (plan_of (length net.starts) (links_of net.switches)) (wired net)

-- A section: its entries after their count.
abbrev pub section : {A : Type 0} → (A → List ℕ) → List A → List ℕ
section entry xs = length xs ∷ flat_map entry xs

-- An entry of one number; a pivot: vertex, degree.
abbrev pub single : ℕ → List ℕ
single n = n ∷ []

abbrev pub step_entry : Step → List ℕ
step_entry s = s.vertex ∷ s.degree ∷ []

-- What a result says: coil numbers, records, references to answers, pivots, figures.
pub record Stored : Type 0 where
  pub variables : List ℕ
  pub records : List Record
  pub answers : List ℕ
  pub order : List Step
  pub figures : List ℕ

-- Variables as given; records; vertices (reference to answer); order (vertex, degree); figures: given formulas, joins, work.
unfoldable pub result_in : Network → Stored
result_in net =
    let n = length net.starts in
    let g = links_of net.switches in
    let done = eliminated net in
    record {
      variables = net.variables;
      records = done.records;
      answers = map (λ v. done.cells (Start v)) (vertices n);
      order = steps g (vertices n) (order n g);
      figures = length net.givens ∷ joins_of net.switches ∷ work_of n g ∷ [];
    }

-- Five sections in this order, each after its count.
unfoldable pub result_numbers : Stored → List ℕ
result_numbers r =
    section single r.variables
    ++ (section record_entry r.records
    ++ (section single r.answers
    ++ (section step_entry r.order
    ++ section single r.figures)))

-- All numbers are again 16 bits, low byte first.
unfoldable pub result_of : Network → List ℕ
result_of net = bytes_of (result_numbers (result_in net))
