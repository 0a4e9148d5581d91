-- The references that the cells hold, their product and where it is joined the sum, and the cell that the outcome goes to.
use Rattle.std.proofs.Common.{rules}
use Rattle.operations.proofs.Asking.{held_below, sum_usable, sum_was, sum_product, carried_joined, carried_alone}
use Rattle.operations.proofs.Worksheet.ask.Goals as goal

pub make-t-requires-clause-a_below : goal.make-t-requires-clause-a_below
make-t-requires-clause-a_below c = search (held_below, rules)

pub make-t-requires-clause-b_below : goal.make-t-requires-clause-b_below
make-t-requires-clause-b_below c = search (held_below, rules)

pub make-sum-requires-clause-usable : goal.make-sum-requires-clause-usable
make-sum-requires-clause-usable c = search (sum_usable, rules)

pub make-sum-requires-clause-a_below : goal.make-sum-requires-clause-a_below
make-sum-requires-clause-a_below c = search (sum_was, rules)

pub make-sum-requires-clause-b_below : goal.make-sum-requires-clause-b_below
make-sum-requires-clause-b_below c = search (sum_product, rules)

pub returns-then-x : goal.returns-then-x
returns-then-x c = search (carried_joined, rules)

pub returns-else-x : goal.returns-else-x
returns-else-x c = search (carried_alone, rules)
