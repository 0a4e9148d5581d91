-- `direct::Valued::spread`: the invariant and its laws are those of `Spreading`.
use Rattle.network.specs.Network.{network_of}
use Rattle.values.specs.Values.{value_in}
use Rattle.direct.specs.Sweep.{Spreading, pending}
use Rattle.direct.proofs.Valued.spread.Given as goal

abbrev pub invariant-loop-new : goal.invariant-loop-new
invariant-loop-new l = Spreading (value_in l.self.values.now) (network_of l.self.net.file.now).switches l.initial.marks l.marks l.new

abbrev pub decreases-loop-new : goal.decreases-loop-new
decreases-loop-new l = pending l.marks l.new
