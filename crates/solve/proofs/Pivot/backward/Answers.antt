-- The laws of the loop, and of a turn: at a neighbour an operation is carried out, elsewhere nothing is to be done.
use Rattle.std.proofs.Common.{refl, rules}
use Rattle.operations.specs.Worksheets.{turning_none, turning_turn, turning_more, turning_all}
use Rattle.solve.specs.Turns.{backward_turns}
use Rattle.solve.specs.Ways.{back_far, back_ready, back_ran}
use Rattle.solve.proofs.Pivot.backward.Goals as goal
use Rattle.solve.proofs.Pivot.backward.Goals.{then-has, else-has}

pub loop-u-init : goal.loop-u-init
loop-u-init c = search (turning_none, backward_turns, rules)

pub ask-requires-clause-able : goal.ask-requires-clause-able
ask-requires-clause-able c =
    back_ready _ _ _ _ c.has.ensures (turning_turn _ _ c.loop-u.invariant c.loop-u-test.true _ refl) c.if-has.true

pub loop-u-preserved : goal.loop-u-preserved
loop-u-preserved c =
    elim c.if-has.branch [
      | then-has w ↦ search (turning_turn, turning_more, back_ran, rules)
      | else-has w ↦ search (turning_turn, turning_more, back_far, rules)
    ]

pub returns : goal.returns
returns c = search (turning_all, backward_turns, rules)
