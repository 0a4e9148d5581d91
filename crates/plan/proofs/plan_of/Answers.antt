-- The links, and then the elimination.
use Rattle.std.proofs.Common.{rules}
use Rattle.plan.specs.Planned.{plan_made}
use Rattle.plan.proofs.Planned.{plan_few}
use Rattle.plan.proofs.plan_of.Goals as goal

pub returns-clause-value : goal.returns-clause-value
returns-clause-value c = search (plan_made, rules)

pub returns-clause-bounded : goal.returns-clause-bounded
returns-clause-bounded c = search (plan_few, rules)
