-- What it says that a pair is another.
use Rattle.std.specs.Prelude.{◌≡◌, true, false, ℕ, eqb}
use Rattle.std.proofs.Common.{eqb-true, eq-eqb, ne_eqb}
use Rattle.laws.specs.Tests.{both_true, by_same}
use Rattle.links.specs.Switches.{pair}

module _ (a b u v : ℕ) where
  -- Its ends are the same,
  pub pair_both : pair a b u v ≡ true → (u ≡ a) × (v ≡ b)
  pair_both t = let x = both_true (eqb u a) (eqb v b) t in (eqb-true u a x.0, eqb-true v b x.1)

  -- and where they are not, it is not.
  pub pair_other : (u ≡ a → v ≡ b → ⊥) → pair a b u v ≡ false
  pair_other d = by_same u a (λ e. rw (eq-eqb u a e) (ne_eqb v b (d e))) (λ n. rw (ne_eqb u a n))
