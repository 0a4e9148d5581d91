-- Operations that are asked for, as data. Nothing here knows what the cells hold.
use Rattle.std.specs.Prelude.{Bool, false, cond, ◌&&◌, List, [], ◌∷◌, ℕ, ◌+◌, eqb}
use Rattle.sheet.specs.declared.Cell.{Cell}
use Rattle.sheet.specs.declared.Cell.TheVariants.{Start, Label}
use Rattle.sheet.specs.declared.Ask.{Ask}

-- Two cells are the same.
unfoldable pub same_cell : Cell → Cell → Bool
same_cell (Start v) (Start w) = eqb v w
same_cell (Start v) (Label x y) = false
same_cell (Label u v) (Start w) = false
same_cell (Label u v) (Label x y) = eqb u x && eqb v y

-- Cell `to` becomes a and b or, where it is joined, what it was or (a and b).
abbrev pub ask : Bool → Cell → Cell → Cell → Ask
ask joined to a b = record { joined = joined; to = to; a = a; b = b }

-- Each and/or so asked is one work, also when no record results: the product, and the sum where it is joined.
unfoldable pub work : List Ask → ℕ
work [] = 0
work (x ∷ xs) = cond x.joined 2 1 + work xs
