-- Equal ends are ignored, and else there are two labels.
use Rattle.std.proofs.Common.{rules}
use Rattle.wiring.specs.Labels.{labelled_loop, there_able, back_able, labelled_both}
use Rattle.wiring.proofs.set_labels.Goals as goal

pub returns-then-w : goal.returns-then-w
returns-then-w c = search (labelled_loop, rules)

pub set_or_join-requires-clause-able : goal.set_or_join-requires-clause-able
set_or_join-requires-clause-able c = search (there_able, rules)

pub set_or_join-requires-2-clause-able : goal.set_or_join-requires-2-clause-able
set_or_join-requires-2-clause-able c = search (back_able, rules)

pub returns : goal.returns
returns c = search (labelled_both, rules)
