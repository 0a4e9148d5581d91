-- The laws of the loop, and of a turn: at another neighbour an operation is carried out, elsewhere nothing is to be done.
use Rattle.std.proofs.Common.{refl, rules}
use Rattle.operations.specs.Worksheets.{turning_none, turning_turn, turning_more, turning_all}
use Rattle.solve.specs.Turns.{labels_turns}
use Rattle.solve.specs.Ways.{label_far, label_self, label_ready, label_ran}
use Rattle.solve.proofs.Pivot.pass_labels.Goals as goal
use Rattle.solve.proofs.Pivot.pass_labels.Goals.{then-has+then-v-u, else-has, else-has-via-then-has+else-v-u, else-has-via-else-has}

pub loop-u-init : goal.loop-u-init
loop-u-init c = search (turning_none, labels_turns, rules)

pub ask-requires-clause-able : goal.ask-requires-clause-able
ask-requires-clause-able c =
    label_ready _ _ _ _ c.has.ensures _ _ (turning_turn _ _ c.loop-u.invariant c.loop-u-test.true _ refl) c.if-has.true
    c.if-v-u.true _ c.has-then-v-u.ensures

pub loop-u-preserved : goal.loop-u-preserved
loop-u-preserved c =
    elim c.if-has.branch [
      | then-has+then-v-u w ↦ search (turning_turn, turning_more, label_ran, rules)
      | else-has w ↦ elim w.else-has.branch [
        | else-has-via-then-has+else-v-u w' ↦ search (turning_turn, turning_more, label_self, rules)
        | else-has-via-else-has w' ↦ search (turning_turn, turning_more, label_far, rules)
      ]
    ]

pub returns : goal.returns
returns c = search (turning_all, labels_turns, rules)
