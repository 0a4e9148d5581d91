-- `direct::write`: the invariant and its laws are those of `Written`.
use Rattle.std.proofs.Common.{length}
use Rattle.direct.specs.Solve.{Written}
use Rattle.direct.proofs.write.Given as goal

abbrev pub invariant-loop-v : goal.invariant-loop-v
invariant-loop-v l = Written l.marks (length l.marks) l.initial.out l.out l.v
