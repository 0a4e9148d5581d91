-- The first k given formulas have passed.
use Rattle.givens.specs.Passing.{PassingIn}
use Rattle.givens.proofs.pass_givens.Given as goal

abbrev pub invariant-loop-k : goal.invariant-loop-k
invariant-loop-k l = PassingIn l.net.file.now l.net.parts l.fn.records l.fn.out l.references l.records l.out l.k
