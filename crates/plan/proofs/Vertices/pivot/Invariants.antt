-- The vertices below v have been tried.
use Rattle.plan.specs.Scan.{Scanning}
use Rattle.plan.proofs.Vertices.pivot.Given as goal

abbrev pub invariant-loop-v : goal.invariant-loop-v
invariant-loop-v l = Scanning l.links l.self.row l.self.among l.v l.best
