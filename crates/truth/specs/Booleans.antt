-- What or, and a sum over a list, say.
use Rattle.std.specs.Prelude.{◌≡◌, Bool, true, false, ◌||◌}
use Rattle.std.proofs.Math.Path.{refl}
use Rattle.std.proofs.Common.{sym}
use Rattle.std.proofs.Math.Logic.{⊎_elim}
use Rattle.std.proofs.Math.Bool.{So}
use Rattle.std.proofs.lemmas.Bool.{false≢true}
use mathlib.Core.List.{List, [], ◌∷◌, Memᴰ}
use Rattle.laws.specs.Tests.{either_true}
use Rattle.truth.specs.Systems.{any_of}

-- A sum is true where its second part is.
pub or_right : (a b : Bool) → So b → So (a || b)
or_right true b h = refl
or_right false b h = h

-- What is true together is equal.
pub same_truth : (a b : Bool) → (So a → So b) → (So b → So a) → a ≡ b
same_truth true b f h = sym (f refl)
same_truth false true f h = h refl
same_truth false false f h = refl

module _ {A : Type 0} (f : A → Bool) where
  -- A true term makes the sum true,
  pub any_intro : (xs : List A) {x : A} → Memᴰ x xs → So (f x) → So (any_of f xs)
  unfolding any_of
  any_intro [] m h = elim m [ ]
  any_intro (y ∷ ys) (Memᴰ.head e) h = rw (rw e at h)
  any_intro (y ∷ ys) (Memᴰ.tail m) h = or_right (f y) (any_of f ys) (any_intro ys m h)

  -- and a true sum has one.
  pub any_elim : (xs : List A) → So (any_of f xs) → (x : A) × Memᴰ x xs × So (f x)
  unfolding any_of
  any_elim [] h = absurd (false≢true h)
  any_elim (y ∷ ys) h =
      ⊎_elim (λ t. (y, Memᴰ.head refl, t)) (λ t. let r = any_elim ys t in (r.0, Memᴰ.tail r.1, r.2)) (either_true (f y) (any_of f ys) h)
