-- The first k variables are written.
use Rattle.analysis.specs.Result.{single}
use Rattle.network.specs.Network.{network_of}
use Rattle.writer.specs.Entering.{Entering}
use Rattle.writer.proofs.write_variables.Given as goal

abbrev pub invariant-loop-k : goal.invariant-loop-k
invariant-loop-k l = Entering single 2 l.count (network_of l.net.file.now).variables 2 l.initial.out l.out l.k
