-- The turns of the first v vertices are done.
use Rattle.operations.specs.Worksheets.{Turning}
use Rattle.solve.specs.Turns.{neighbour_turn}
use Rattle.solve.proofs.Pivot.forward.Given as goal

abbrev pub invariant-loop-v : goal.invariant-loop-v
invariant-loop-v l = Turning (neighbour_turn l.links l.self.near l.self.among l.self.vertex) l.self.among l.fn.sheet l.fn.out l.v l.sheet l.out
