-- Where nothing is added, the law of that way out.
use Rattle.std.proofs.Common.{refl}
use Rattle.records.specs.Rules.{leaves, decides, equals}
use Rattle.records.specs.Entered.{made}
use Rattle.records.proofs.Entering.{entered_old, told_equal, told_unequal}
use Rattle.records.proofs.Records.combine.Goals as goal
use Rattle.records.proofs.Records.combine.Goals.{then-eq-2-via-then-eq-2, then-eq-2-via-else-eq-2+then-eq-3}

pub returns-then-eq : goal.returns-then-eq
returns-then-eq c =
    entered_old c.args.self.now _ c.requires.usable.noted _ _
    (leaves _ _ _ (made c.args.b c.args.self.now) _ _ _ _ _ c.neutral.ensures
    (told_equal c.args.a.number c.neutral.result.number c.eq.ensures c.if-eq.true) refl refl)

pub returns-then-eq-2 : goal.returns-then-eq-2
returns-then-eq-2 c =
    let a = c.args.a.number in
    let other = told_unequal a c.neutral.result.number c.eq.ensures c.if-eq.false in
    entered_old c.args.self.now _ c.requires.usable.noted _ _
    (elim c.then-eq-2.branch [
      | then-eq-2-via-then-eq-2 w ↦ decides _ _ _ (made c.args.a c.args.self.now) _ _ _ _ _ c.neutral.ensures other _ c.deciding.ensures
          (told_equal a c.deciding.result.number c.eq-2.ensures w.if-eq-2.true) refl refl
      | then-eq-2-via-else-eq-2+then-eq-3 w ↦ equals _ _ _ (made c.args.a c.args.self.now) _ _ _ _ _ c.neutral.ensures other _ c.deciding.ensures
          (told_unequal a c.deciding.result.number c.eq-2.ensures w.if-eq-2.false)
          (told_equal a c.args.b.number w.eq-else-eq-2.ensures w.if-eq-3.true) refl refl
    ])
