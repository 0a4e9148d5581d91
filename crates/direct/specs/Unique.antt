-- Two outcomes that the promise allows coincide: the reply, and every byte of the lent buffer.
use Rattle.std.specs.Prelude.{◌≡◌, List, ℕ, ◌+◌, ◌-◌, ltb, length, get_or, Result}
use Rattle.std.proofs.Common.{sym, ap, ◌∙◌, ⊎_elim, arith, ltb-true, ltb-false, ext_get_or, get_or-drop}
use Rattle.laws.specs.Tests.{by_test}
use Rattle.form.specs.declared.Fault.{Fault}
use Rattle.form.specs.Refusals.{Answer, refused, accepted}
use Rattle.form.specs.Verdicts.{reply_unique}
use Rattle.network.specs.Network.{Network, edition, network_of}
use Rattle.direct.specs.Direct.{direct_answer, Answered, Leaves}
use Rattle.direct.specs.Promise.{Promise}

module _ (net : Network) (setting before x y : List ℕ) where
  -- Below n by the path rule, which holds or does not, and from there on by what was there before.
  same_bytes : Answered net setting before x → Answered net setting before y → x ≡ y
  same_bytes a b =
      let n : ℕ = length net.starts in
      ext_get_or 0 x y (a.long ∙ sym b.long) (λ i h. by_test (ltb i n)
      (λ t. let l = ltb-true i n t in ⊎_elim
      (λ p. ⊎_elim (λ q. p.0 ∙ sym q.0) (λ q. absurd (q.1 p.1)) (b.paths i l))
      (λ p. ⊎_elim (λ q. absurd (p.1 q.1)) (λ q. p.0 ∙ sym q.0) (b.paths i l))
      (a.paths i l))
      (λ t. let l = ltb-false i n t in
      let e : n + (i - n) ≡ i = omega arith in
      simp (get_or-drop, e) at (ap (λ (z : List ℕ). get_or z (i - n) 0) (a.later ∙ sym b.later))))

  same_left : (a : Answer ℕ) → Leaves a net setting before x → Leaves a net setting before y → x ≡ y
  same_left (refused number place) c d = c ∙ sym d
  same_left (accepted n) c d = same_bytes c d

pub unique : (s setting before x y : List ℕ) (r q : Result ℕ Fault) → Promise s setting before x r → Promise s setting before y q → (r ≡ q) × (x ≡ y)
unique s setting before x y r q c d = (
  reply_unique r q (c.reply ∙ sym d.reply),
  same_left (network_of s) setting before x y (direct_answer edition s setting (length before)) c.bytes d.bytes,
)
