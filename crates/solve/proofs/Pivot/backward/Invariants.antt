-- The turns of the first u vertices are done.
use Rattle.operations.specs.Worksheets.{Turning}
use Rattle.solve.specs.Turns.{back_turn}
use Rattle.solve.proofs.Pivot.backward.Given as goal

abbrev pub invariant-loop-u : goal.invariant-loop-u
invariant-loop-u l = Turning (back_turn l.self.near l.self.vertex) l.self.among l.fn.sheet l.fn.out l.u l.sheet l.out
