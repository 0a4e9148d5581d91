-- `values::leaves`: the invariant and its laws are those of `Filling`.
use Rattle.values.specs.Filling.{Filling}
use Rattle.values.proofs.leaves.Given as goal

abbrev pub invariant-loop-k : goal.invariant-loop-k
invariant-loop-k l = Filling l.setting l.values l.k
