-- Where a record that is the same as another can stand.
use Rattle.std.specs.Prelude.{◌≡◌, false, cond, List, ℕ, ◌+◌, ◌-◌, ◌<◌, leb, length, get_or}
use Rattle.form.specs.declared.Record.{Record}
use Rattle.formula.specs.Make.{same, none}

-- No two records are equal.
abbrev pub Distinct : List Record → Type 0
Distinct records = (j k : ℕ) → j < k → k < length records → same (get_or records j none) (get_or records k none) ≡ false

-- The larger argument of a record,
unfoldable pub larger : Record → ℕ
larger x = cond (leb x.first x.second) x.second x.first

-- and the place after the record that it names, 0 where it names none.
abbrev pub place_after : ℕ → Record → ℕ
place_after p x = larger x - (p + 1)
