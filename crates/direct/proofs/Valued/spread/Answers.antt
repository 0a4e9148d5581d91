-- `direct::Valued::spread` meets its contract: the laws of `Spreading`.
use Rattle.direct.specs.Sweep.{spreading_none, spreading_more, spreading_less}
use borrow.Author.Rules.{rules}
use Rattle.direct.proofs.Valued.spread.Goals as goal

pub loop-new-init : goal.loop-new-init
loop-new-init c = search (spreading_none, rules)

pub loop-new-smaller : goal.loop-new-smaller
loop-new-smaller c = search (spreading_less, rules)

pub loop-new-preserved : goal.loop-new-preserved
loop-new-preserved c = search (spreading_more, rules)
