-- The first k switches have been linked.
use Rattle.network.specs.Network.{network_of}
use Rattle.plan.specs.Wire.{Wiring}
use Rattle.plan.proofs.wire.Given as goal

abbrev pub invariant-loop-k : goal.invariant-loop-k
invariant-loop-k l = Wiring (network_of l.net.file.now).switches l.fn.links l.links l.k l.joins
