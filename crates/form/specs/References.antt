-- Kinds of formulas, and references: a constant, a variable, or a given formula or record.
use Rattle.std.specs.Prelude.{List, [], ◌∷◌, ℕ, ◌+◌}
use Rattle.form.specs.declared.Record.{Record}

-- kind (1 and, 2 or, 3 not)
abbrev pub kind_and : ℕ
kind_and = 1

abbrev pub kind_or : ℕ
kind_or = 2

abbrev pub kind_not : ℕ
kind_not = 3

-- Constant false is reference 0,
abbrev pub constant_false : ℕ
constant_false = 0

-- constant true is reference 1.
abbrev pub constant_true : ℕ
constant_true = 1

-- Variable i is 2+i,
abbrev pub variable : ℕ → ℕ
variable i = 2 + i

-- and, with p variables, given formula k of a file, or record k of a result, is 2+p+k, all counted from 0.
abbrev pub formula : ℕ → ℕ → ℕ
formula p k = 2 + p + k

-- A record's numbers: kind, first, second.
abbrev pub record_entry : Record → List ℕ
record_entry r = r.kind ∷ r.first ∷ r.second ∷ []
