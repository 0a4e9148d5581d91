-- What a sheet's cells are worth under a setting.
use Rattle.std.specs.Prelude.{Bool, List, ℕ, ◌<◌, ◌≤◌, length}
use Rattle.form.specs.References.{formula}
use Rattle.formula.specs.MakeLaws.{Orderly}
use Rattle.formula.specs.Worth.{worth}
use Rattle.sheet.specs.Perform.{Sheet}
use Rattle.sheet.specs.declared.Cell.{Cell}

-- What each cell's reference is worth, by the sheet's records.
unfoldable pub worth_of : List ℕ → Sheet → Cell → Bool
worth_of setting st c = worth setting st.records (st.cells c)

-- At most so many records, in order, and each cell's reference is there.
pub record Standing (p most : ℕ) (st : Sheet) : Type 0 where
  pub few : length st.records ≤ most
  pub orderly : Orderly p st.records
  pub there : (c : Cell) → st.cells c < formula p (length st.records)
