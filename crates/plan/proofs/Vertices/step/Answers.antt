-- What the parts of a step say together: the neighbours are among as many vertices.
use Rattle.std.proofs.Common.{rules}
use Rattle.plan.specs.Planned.{steps_are}
use Rattle.plan.proofs.Vertices.step.Goals as goal

pub returns : goal.returns
returns c =
    let work = rw c.near.ensures.1 at c.work-work.ensures.0 in
    search (steps_are, rules)
