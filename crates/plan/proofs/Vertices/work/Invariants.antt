-- The work at the vertices below v has been added up.
use Rattle.links.specs.Sums.{Summing}
use Rattle.plan.specs.Work.{neighbour_asked, neighbour_most}
use Rattle.plan.proofs.Vertices.work.Given as goal

abbrev pub invariant-loop-v : goal.invariant-loop-v
invariant-loop-v l = Summing (neighbour_asked l.links l.self.row) neighbour_most l.self.among l.v l.work
