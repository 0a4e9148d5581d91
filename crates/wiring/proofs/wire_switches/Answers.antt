-- The laws of `Joining`.
use Rattle.std.proofs.Common.{rules}
use Rattle.wiring.specs.Switches.{joining_none, joining_turn, joining_more, joining_all}
use Rattle.wiring.proofs.wire_switches.Goals as goal

pub loop-k-init : goal.loop-k-init
loop-k-init c = search (joining_none, rules)

pub wire_switch-requires : goal.wire_switch-requires
wire_switch-requires c = search (joining_turn, rules)

pub loop-k-preserved : goal.loop-k-preserved
loop-k-preserved c = search (joining_more, rules)

pub returns : goal.returns
returns c = search (joining_all, rules)
