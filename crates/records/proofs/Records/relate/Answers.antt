-- Where nothing is added, the law of that way out.
use Rattle.std.proofs.Common.{refl}
use Rattle.records.specs.Rules.{opposes, absorbs}
use Rattle.records.specs.Entered.{made}
use Rattle.records.proofs.Entering.{entered_old}
use Rattle.records.proofs.Records.relate.Goals as goal

pub returns-then-is_not_of : goal.returns-then-is_not_of
returns-then-is_not_of c =
    entered_old c.args.self.now _ c.requires.usable.noted _ _
    (opposes _ _ _ (made c.deciding.result c.args.self.now) _ _ _ _ c.named-x.result c.named-x.ensures _ c.is_not_of.ensures
    c.if-is_not_of.true c.deciding.ensures refl)

pub returns-then-holds : goal.returns-then-holds
returns-then-holds c =
    entered_old c.args.self.now _ c.requires.usable.noted _ _
    (absorbs _ _ _ (made c.absorbed.result c.args.self.now) _ _ _ _ c.named-x.result c.named-x.ensures _ c.is_not_of.ensures
    c.if-is_not_of.false _ c.holds.ensures c.if-holds.true c.absorbed.ensures refl)
