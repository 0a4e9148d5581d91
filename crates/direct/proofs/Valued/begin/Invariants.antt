-- `direct::Valued::begin`: the invariant and its laws are those of `Beginning`.
use Rattle.network.specs.Network.{network_of}
use Rattle.values.specs.Values.{value_in}
use Rattle.direct.specs.Solve.{Beginning}
use Rattle.direct.proofs.Valued.begin.Given as goal

abbrev pub invariant-loop-v : goal.invariant-loop-v
invariant-loop-v l = Beginning (value_in l.self.values.now) (network_of l.self.net.file.now).starts l.marks l.v
