-- A vertex is listed, and in the end all are.
use Rattle.std.proofs.Common.{rules, arith, ext_get_or, ◌≡◌, ◌∙◌, sym, refl, length, get_or, length-set}
use Rattle.std.proofs.Math.Seq.{get_or-set_same, get_or-set_other}
use Rattle.std.proofs.lemmas.List.{length-map, get_or-map}
use Rattle.laws.specs.Tests.{by_same}
use Rattle.plan.specs.Plans.{none_taken}
use Rattle.plan.specs.declared.Taken.{Taken}
use Rattle.plan.proofs.Plan.order.Goals as goal

pub loop-k-init : goal.loop-k-init
loop-k-init c = (refl, λ i h. absurd (omega (arith, h)))

pub loop-k-preserved : goal.loop-k-preserved
loop-k-preserved c =
    let k = c.loop-k.k in
    let order = c.loop-k.order in
    let x = (get_or c.args.self.now.steps k none_taken).vertex in (
      length-set order k _ ∙ c.loop-k.invariant.0,
      λ i h. by_same i k
          (λ e. rw e (get_or-set_same order k x 0 (omega (arith, c.loop-k.invariant.0, c.loop-k-test.true))))
          (λ d. get_or-set_other order k i x 0 d ∙ c.loop-k.invariant.1 i (omega (arith, h, d))),
    )

pub returns : goal.returns
returns c =
    let steps = c.args.self.now.steps in
    let long : length steps ≡ 24 = search rules in
    ext_get_or 0 c.loop-k.order _ (omega (arith, c.loop-k.invariant.0, long, length-map steps (λ (t : Taken). t.vertex)))
    (λ i h. c.loop-k.invariant.1 i (omega (arith, c.loop-k.invariant.0, c.loop-k-test.false, h))
    ∙ sym (get_or-map (λ (t : Taken). t.vertex) steps i none_taken 0 (omega (arith, long, c.loop-k.invariant.0, h))))
