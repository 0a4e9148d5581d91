-- The label is set, or joined.
use Rattle.std.proofs.Common.{rules}
use Rattle.operations.specs.Ways.{cell_below}
use Rattle.wiring.specs.Labels.{label_set, label_usable, label_joined}
use Rattle.wiring.proofs.set_or_join.Goals as goal

pub make-made-requires-clause-usable : goal.make-made-requires-clause-usable
make-made-requires-clause-usable c = search (label_usable, rules)

pub make-made-requires-clause-a_below : goal.make-made-requires-clause-a_below
make-made-requires-clause-a_below c = search (cell_below, rules)

pub returns-then-has : goal.returns-then-has
returns-then-has c = search (label_joined, rules)

pub returns : goal.returns
returns c = search (label_set, rules)
