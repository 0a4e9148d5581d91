-- `direct::Valued::sweep` meets its contract: the laws of `Sweeping`.
use Rattle.direct.specs.Marks.{sweeping_more, sweeping_all}
use borrow.Author.Rules.{rules}
use Rattle.direct.proofs.Valued.sweep.Goals as goal

pub loop-k-preserved : goal.loop-k-preserved
loop-k-preserved c = search (sweeping_more, rules)

pub returns : goal.returns
returns c = search (sweeping_all, rules)
