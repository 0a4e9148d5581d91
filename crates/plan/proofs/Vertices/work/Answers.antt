-- The work at v is added, and in the end the sum is the pivot's work.
use Rattle.std.proofs.Common.{rules}
use Rattle.links.specs.Sums.{summing_none, summing_more}
use Rattle.plan.specs.Work.{pivot_counted}
use Rattle.plan.proofs.Vertices.work.Goals as goal

pub loop-v-init : goal.loop-v-init
loop-v-init c = search (summing_none, rules)

pub loop-v-preserved : goal.loop-v-preserved
loop-v-preserved c = search (summing_more, rules)

pub returns : goal.returns
returns c = search (pivot_counted, rules)
