-- `values::values_of`: the invariant and its laws are those of `Running`.
use Rattle.network.specs.Network.{network_of}
use Rattle.values.specs.Filling.{Running}
use Rattle.values.proofs.values_of.Given as goal

abbrev pub invariant-loop-k : goal.invariant-loop-k
invariant-loop-k l = Running l.setting (network_of l.net.file.now).givens l.values l.k
