-- The labels from the first u vertices are done.
use Rattle.operations.specs.Worksheets.{Turning}
use Rattle.solve.specs.Turns.{label_turn}
use Rattle.solve.proofs.Pivot.pass_labels.Given as goal

abbrev pub invariant-loop-u : goal.invariant-loop-u
invariant-loop-u l = Turning (label_turn l.links l.self.near l.self.vertex l.v) l.self.among l.fn.sheet l.fn.out l.u l.sheet l.out
