-- The laws of `Started`.
use Rattle.std.proofs.Common.{rules}
use Rattle.wiring.specs.Starts.{started_none, started_more}
use Rattle.wiring.proofs.put_starts.Goals as goal

pub loop-v-init : goal.loop-v-init
loop-v-init c = search (started_none, rules)

pub loop-v-preserved : goal.loop-v-preserved
loop-v-preserved c = search (started_more, rules)
