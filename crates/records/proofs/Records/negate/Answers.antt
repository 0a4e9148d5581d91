-- Where nothing is added, the law of that way out.
use Rattle.std.proofs.Common.{refl}
use Rattle.records.specs.Rules.{not_false, not_true, not_not}
use Rattle.records.specs.Entered.{made}
use Rattle.records.proofs.Entering.{entered_old, told_equal, told_unequal}
use Rattle.records.proofs.Records.negate.Goals as goal

pub returns-then-eq : goal.returns-then-eq
returns-then-eq c =
    entered_old c.args.self.now _ c.requires.usable.noted _ _
    (not_false _ _ _ (made (record { number = 1 }) c.args.self.now) _ _ (told_equal c.args.a.number 0 c.eq.ensures c.if-eq.true) refl refl)

pub returns-then-eq-2 : goal.returns-then-eq-2
returns-then-eq-2 c =
    entered_old c.args.self.now _ c.requires.usable.noted _ _
    (not_true _ _ _ (made (record { number = 0 }) c.args.self.now) _ _ (told_unequal c.args.a.number 0 c.eq.ensures c.if-eq.false)
    (told_equal c.args.a.number 1 c.eq-2.ensures c.if-eq-2.true) refl refl)

pub returns-then-x-eq-NOT : goal.returns-then-x-eq-NOT
returns-then-x-eq-NOT c =
    entered_old c.args.self.now _ c.requires.usable.noted _ _
    (not_not _ _ _ (made (record { number = c.named-x.result.first }) c.args.self.now) _ _ c.named-x.result c.named-x.ensures
    (told_unequal c.args.a.number 0 c.eq.ensures c.if-eq.false) (told_unequal c.args.a.number 1 c.eq-2.ensures c.if-eq-2.false)
    c.if-x-eq-NOT.true refl refl)
