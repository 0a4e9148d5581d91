-- `direct::Valued::sweep`: the invariant and its laws are those of `Sweeping`.
use Rattle.network.specs.Network.{network_of}
use Rattle.values.specs.Values.{value_in}
use Rattle.direct.specs.Marks.{Sweeping}
use Rattle.direct.proofs.Valued.sweep.Given as goal

abbrev pub invariant-loop-k : goal.invariant-loop-k
invariant-loop-k l = Sweeping (value_in l.self.values.now) (network_of l.self.net.file.now).switches l.initial.marks l.marks l.k l.new
