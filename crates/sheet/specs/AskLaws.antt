-- Laws of operations that are asked for.
use Rattle.std.specs.Prelude.{◌≡◌, List, [], ◌∷◌, ◌++◌, ◌+◌}
use Rattle.std.proofs.Common.{arith}
use Rattle.sheet.specs.declared.Ask.{Ask}
use Rattle.sheet.specs.Asks.{work}

-- The work of one list after another.
pub work_append : (xs ys : List Ask) → work (xs ++ ys) ≡ work xs + work ys
unfolding work
work_append [] ys = omega arith
work_append (x ∷ xs) ys = omega (arith, work_append xs ys)
