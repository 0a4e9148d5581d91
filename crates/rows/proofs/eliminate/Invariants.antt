-- The rows before the index are done, and the others as they were.
use Rattle.rows.specs.Gone.{Going}
use Rattle.rows.proofs.eliminate.Given as goal

abbrev pub invariant-loop-row : goal.invariant-loop-row
invariant-loop-row l = Going l.fn.links l.p l.links l.row-index
