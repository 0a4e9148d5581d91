-- Carrying operations out on a sheet of references and records.
use Rattle.std.specs.Prelude.{Bool, cond, List, [], ◌∷◌, ◌++◌, ℕ}
use Rattle.form.specs.References.{kind_and, kind_or}
use Rattle.form.specs.declared.Record.{Record}
use Rattle.formula.specs.Make.{Outcome, make}
use Rattle.sheet.specs.declared.Cell.{Cell}
use Rattle.sheet.specs.declared.Ask.{Ask}
use Rattle.sheet.specs.Asks.{same_cell}

-- The reference that each cell holds, and the records that these refer to.
pub record Sheet : Type 0 where
  pub cells : Cell → ℕ
  pub records : List Record

-- Something goes into a cell.
unfoldable pub set_cell : {X : Type 0} → Cell → X → (Cell → X) → Cell → X
set_cell to r cells = λ c. cond (same_cell to c) r (cells c)

-- An outcome's reference goes into a cell, and its record after the others.
unfoldable pub put : Cell → Outcome → Sheet → Sheet
put to o st = record { cells = set_cell to o.reference st.cells; records = st.records ++ o.added }

-- The second operation gets the first's reference, and the records with what the first has added.
unfoldable pub and_then : (List Record → Outcome) → (ℕ → List Record → Outcome) → List Record → Outcome
and_then f g records =
    let o = f records in
    let q = g o.reference (records ++ o.added) in
    record { reference = q.reference; added = o.added ++ q.added }

-- was or (a and b) where it is joined, and else a and b. A product is asked before its sum.
unfoldable pub product : ℕ → Bool → ℕ → ℕ → ℕ → List Record → Outcome
product p joined was a b = cond joined (and_then (make p kind_and a b) (λ t. make p kind_or was t)) (make p kind_and a b)

-- What an ask gives on a sheet.
unfoldable pub asked : ℕ → Ask → Sheet → Outcome
asked p x st = product p x.joined (st.cells x.to) (st.cells x.a) (st.cells x.b) st.records

-- One ask after another.
unfoldable pub perform : ℕ → List Ask → Sheet → Sheet
perform p [] st = st
perform p (x ∷ xs) st = perform p xs (put x.to (asked p x st) st)
