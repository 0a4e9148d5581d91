-- `values::leaves` meets its contract: the laws of `Filling`.
use Rattle.values.specs.Filling.{filling_none, filling_more}
use Rattle.std.proofs.Common.{refl, ◌∙◌, arith}
use borrow.Author.Rules.{rules}
use Rattle.values.proofs.leaves.Goals as goal

pub loop-k-init : goal.loop-k-init
loop-k-init c = search (filling_none, rules)

pub loop-k-preserved : goal.loop-k-preserved
loop-k-preserved c =
    filling_more _ _ _ c.loop-k.invariant (omega arith) (omega arith) _ (c.from-in-loop-k.ensures ∙ c.of.ensures) _ refl
