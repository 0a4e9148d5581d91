-- Once all vertices have been tried, the best is the one that rule M takes.
use Rattle.std.proofs.Common.{rules}
use Rattle.plan.specs.Scan.{scanning_all}
use Rattle.plan.proofs.Vertices.pivot.Goals as goal

pub returns : goal.returns
returns c = search (scanning_all, rules)
