-- What tests say.
use Rattle.std.specs.Prelude.{◌≡◌, refl, ◌≢◌, ◌⊎◌, Bool, true, false, cond, ◌&&◌, ◌||◌, ℕ, eqb}
use Rattle.std.proofs.Common.{sym, inl, inr, eqb-true, ne_eqb}
use Rattle.std.proofs.lemmas.Bool.{false≢true, eqb-false}

-- A test of two parts that passed.
pub both_true : (a b : Bool) → a && b ≡ true → (a ≡ true) × (b ≡ true)
both_true true b e = (refl, e)
both_true false b e = absurd (false≢true e)

-- One of two tests passed.
pub either_true : (a b : Bool) → a || b ≡ true → (a ≡ true) ⊎ (b ≡ true)
either_true true b e = inl refl
either_true false b e = inr e

-- The two outcomes of a test, each with its equation.
pub by_test : {A : Type 0} (b : Bool) → (b ≡ true → A) → (b ≡ false → A) → A
by_test true holds fails = holds refl
by_test false holds fails = fails refl

-- Two numbers are the same, or they are not.
pub by_same : {A : Type 0} (u v : ℕ) → (u ≡ v → A) → (u ≢ v → A) → A
by_same u v holds fails = by_test (eqb u v) (λ t. holds (eqb-true u v t)) (λ t. fails (eqb-false u v t))

-- Either may come first.
pub same_turned : (u v : ℕ) → eqb u v ≡ eqb v u
same_turned u v = by_same u v (λ e. rw e) (λ d. rw (ne_eqb u v d, ne_eqb v u (λ e. d (sym e))))

-- What holds of both choices holds of the chosen one.
pub by_choice : {A : Type 0} (P : A → Type 0) (b : Bool) (x y : A) → (b ≡ true → P x) → (b ≡ false → P y) → P (cond b x y)
by_choice P true x y holds fails = holds refl
by_choice P false x y holds fails = fails refl
