-- Entries written out, one after another.
use Rattle.std.specs.Prelude.{◌≡◌, ℕ, ◌*◌, length}
use Rattle.std.proofs.Math.Path.{refl, ap, sym}
use Rattle.std.proofs.Common.{◌∙◌, mul-suc, length-append}
use Rattle.std.proofs.Math.Logic.{⊎_elim}
use mathlib.Core.List.Memᴰ
use mathlib.Core.List.{List, [], ◌∷◌, ◌++◌, flat_map, append_assoc, Memᴰ}
use native.Mathlib.Omega.{arith}

module _ {A B : Type 0} (entry : A → List B) where
  -- One list after another.
  pub flat_append : (xs ys : List A) → flat_map entry (xs ++ ys) ≡ flat_map entry xs ++ flat_map entry ys
  unfolding flat_map
  flat_append [] ys = refl
  flat_append (x ∷ xs) ys = ap (λ (bs : List B). entry x ++ bs) (flat_append xs ys) ∙ sym (append_assoc (entry x) (flat_map entry xs) (flat_map entry ys))

  -- Entries of one size.
  pub flat_length : (size : ℕ) → ((x : A) → length (entry x) ≡ size) → (xs : List A) → length (flat_map entry xs) ≡ size * length xs
  unfolding flat_map
  flat_length size e [] = omega arith
  flat_length size e (x ∷ xs) =
      let below = flat_length size e xs in
      rw (length-append (entry x) (flat_map entry xs), mul-suc) (omega (arith, e x))

  -- The entries of each member are there,
  pub in_flat : (xs : List A) {x : A} {b : B} → Memᴰ x xs → Memᴰ b (entry x) → Memᴰ b (flat_map entry xs)
  unfolding flat_map
  in_flat [] {b = b} x m = elim x [ ]
  in_flat (y ∷ ys) (Memᴰ.head e) m = Memᴰ.append_left (flat_map entry ys) (rw e at m)
  in_flat (y ∷ ys) (Memᴰ.tail n) m = Memᴰ.append_right (entry y) (in_flat ys n m)

  -- and nothing else is.
  pub flat_in : (xs : List A) {b : B} → Memᴰ b (flat_map entry xs) → (x : A) × Memᴰ x xs × Memᴰ b (entry x)
  unfolding flat_map
  flat_in [] m = absurd (Memᴰ.not-nil m)
  flat_in (y ∷ ys) m =
      ⊎_elim
      (λ k. (y, Memᴰ.head refl, k))
      (λ k. let r = flat_in ys k in (r.0, Memᴰ.tail r.1, r.2))
      (Memᴰ.append_cases (entry y) m)
