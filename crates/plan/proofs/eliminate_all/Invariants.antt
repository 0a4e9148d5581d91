-- After k steps, what is written and what is left to do are the plan.
use Rattle.std.proofs.Common.{◌≡◌}
use Rattle.rows.specs.Table.{links_in}
use Rattle.plan.specs.Planned.{Planning}
use Rattle.plan.proofs.eliminate_all.Given as goal

abbrev pub invariant-loop-k : goal.invariant-loop-k
invariant-loop-k l = (l.rest.among ≡ l.n) × Planning (links_in l.fn.links) l.n l.links l.rest.row l.steps l.work l.k
