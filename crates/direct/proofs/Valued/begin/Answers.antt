-- `direct::Valued::begin` meets its contract: the laws of `Beginning`.
use Rattle.direct.specs.Solve.{beginning_none, beginning_more}
use borrow.Author.Rules.{rules}
use Rattle.direct.proofs.Valued.begin.Goals as goal

pub loop-v-init : goal.loop-v-init
loop-v-init c = search (beginning_none, rules)

pub loop-v-preserved : goal.loop-v-preserved
loop-v-preserved c = search (beginning_more, rules)
