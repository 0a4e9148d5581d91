-- A step is taken, and in the end the plan is whole.
use Rattle.std.proofs.Common.{rules}
use Rattle.plan.specs.Planned.{planning_none, planning_more, planned}
use Rattle.plan.proofs.eliminate_all.Goals as goal

pub loop-k-init : goal.loop-k-init
loop-k-init c = search (planning_none, rules)

pub loop-k-preserved : goal.loop-k-preserved
loop-k-preserved c =
    let step = rw c.loop-k.invariant.0 at c.step-now.ensures in
    search (planning_more, rules)

pub returns : goal.returns
returns c = search (planned, rules)
