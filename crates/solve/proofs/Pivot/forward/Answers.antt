-- The laws of the loop, and of a turn: at a neighbour its start and then the labels to it, elsewhere nothing is to be done.
use Rattle.std.proofs.Common.{refl, rules}
use Rattle.operations.specs.Worksheets.{able_after, turning_none, turning_turn, turning_more, turning_all}
use Rattle.solve.specs.Turns.{forward_turns}
use Rattle.solve.specs.Ways.{neighbour_far, start_ready, labels_ready, neighbour_ran}
use Rattle.solve.proofs.Pivot.forward.Goals as goal
use Rattle.solve.proofs.Pivot.forward.Goals.{then-has, else-has}

pub loop-v-init : goal.loop-v-init
loop-v-init c = search (turning_none, forward_turns, rules)

pub ask-requires-clause-able : goal.ask-requires-clause-able
ask-requires-clause-able c =
    start_ready _ _ _ _ c.has.ensures _ _ (turning_turn _ _ c.loop-v.invariant c.loop-v-test.true _ refl) c.if-has.true

pub pass_labels-requires-clause-able : goal.pass_labels-requires-clause-able
pass_labels-requires-clause-able c = search (able_after, turning_turn, labels_ready, rules)

pub loop-v-preserved : goal.loop-v-preserved
loop-v-preserved c =
    elim c.if-has.branch [
      | then-has w ↦ search (turning_turn, turning_more, neighbour_ran, rules)
      | else-has w ↦ search (turning_turn, turning_more, neighbour_far, rules)
    ]

pub returns : goal.returns
returns c = search (turning_all, forward_turns, rules)
