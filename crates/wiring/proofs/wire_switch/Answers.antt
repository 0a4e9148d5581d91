-- The labels, and then the links.
use Rattle.std.proofs.Common.{rules}
use Rattle.wiring.specs.Switches.{labelling_one, wires_one}
use Rattle.wiring.proofs.wire_switch.Goals as goal

pub set_labels-requires : goal.set_labels-requires
set_labels-requires c = search (labelling_one, rules)

pub returns : goal.returns
returns c = search (wires_one, rules)
