-- A switch is linked, and in the end all are.
use Rattle.std.proofs.Common.{rules}
use Rattle.plan.specs.Wire.{wiring_turn, wiring_end}
use Rattle.plan.proofs.wire.Goals as goal

pub loop-k-preserved : goal.loop-k-preserved
loop-k-preserved c = search (wiring_turn, rules)

pub returns : goal.returns
returns c = search (wiring_end, rules)
