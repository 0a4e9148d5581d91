-- `values::values_of` meets its contract: the laws of `Running`.
use Rattle.values.specs.Filling.{running_none, running_more, running_all}
use Rattle.values.specs.Values.{given_small}
use Rattle.std.proofs.Common.{arith}
use borrow.Author.Rules.{rules}
use Rattle.values.proofs.values_of.Goals as goal

pub loop-k-init : goal.loop-k-init
loop-k-init c = running_none _ _ c.args.net.now.layout c.requires.within _ c.requires.setting_len _ c.leaves.ensures

pub gate-requires : goal.gate-requires
gate-requires c = search (given_small, rules)

pub loop-k-preserved : goal.loop-k-preserved
loop-k-preserved c =
    running_more _ _ c.args.net.now.layout c.requires.within _ c.requires.setting_len _ _ c.loop-k.invariant (omega arith) _ c.given.ensures _ c.gate.ensures

pub returns : goal.returns
returns c = search (running_all, rules)
