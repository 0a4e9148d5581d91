-- Laws of operations carried out one after another.
use Rattle.std.specs.Prelude.{◌≡◌, ◌⊎◌, Bool, true, false, cond, ◌&&◌, ◌||◌}
use Rattle.std.proofs.Math.Path.{refl, ap, fun_ext}
use Rattle.std.proofs.Common.{sym, ◌∙◌, true≢false, eq-eqb}
use Rattle.std.proofs.Math.Logic.{inl, inr, ⊎_elim}
use Rattle.std.proofs.Math.Bool.{So, or_self, or_assoc}
use mathlib.Core.List.Memᴰ
use mathlib.Core.List.{List, [], ◌∷◌, ◌++◌, Memᴰ}
use Rattle.laws.specs.Tests.{by_test}
use Rattle.sheet.specs.Asks.{same_cell}
use Rattle.sheet.specs.Perform.{set_cell}
use Rattle.sheet.specs.declared.Ask.{Ask}
use Rattle.sheet.specs.declared.Cell.{Cell}
use Rattle.sheet.specs.declared.Cell.TheVariants.{Start, Label}
use Rattle.truth.specs.Carry.{Carrier, Reads, truths, given, carry}

-- One list after another.
pub carry_append : {X : Type 0} (k : Carrier X) (xs ys : List Ask) (cells : Cell → X) → carry k (xs ++ ys) cells ≡ carry k ys (carry k xs cells)
unfolding carry
carry_append k [] ys cells = refl
carry_append k (x ∷ xs) ys cells = carry_append k xs ys (set_cell x.to (given k x cells) cells)

-- A cell that no ask writes keeps what it holds.
pub carry_leaves : {X : Type 0} (k : Carrier X) (c : Cell) (xs : List Ask) → ((x : Ask) → Memᴰ x xs → same_cell x.to c ≡ false)
    → (cells : Cell → X) → carry k xs cells c ≡ cells c
unfolding carry set_cell
carry_leaves k c [] other cells = refl
carry_leaves k c (x ∷ xs) other cells =
    carry_leaves k c xs (λ y m. other y (Memᴰ.tail m)) (set_cell x.to (given k x cells) cells) ∙ rw (other x (Memᴰ.head refl))

module _ {X : Type 0} (k : Carrier X) (h : X → Bool) (reads : Reads k h) where
  given_reads : (x : Ask) (cells : Cell → X) → h (given k x cells) ≡ given truths x (λ c. h (cells c))
  unfolding given
  given_reads x cells = by_test x.joined (λ t. rw (t, reads.sums, reads.products)) (λ t. rw (t, reads.products))

  -- What is carried out and then read is what is read and then carried out on truths.
  pub carry_reads : (xs : List Ask) (cells : Cell → X) (c : Cell) → h (carry k xs cells c) ≡ carry truths xs (λ c. h (cells c)) c
  unfolding carry set_cell
  carry_reads [] cells c = refl
  carry_reads (x ∷ xs) cells c =
      carry_reads xs (set_cell x.to (given k x cells) cells) c
      ∙ ap (λ (t : Cell → Bool). carry truths xs t c)
      (fun_ext (λ d. by_test (same_cell x.to d) (λ t. rw (t, given_reads x cells)) (λ t. rw t)))

same_self : (c : Cell) → same_cell c c ≡ true
unfolding same_cell
same_self (Start v) = eq-eqb v v refl
same_self (Label u v) = rw (eq-eqb u u refl, eq-eqb v v refl)

-- A sum to which a product is added again is the same.
twice : (joined was t : Bool) → cond joined (cond joined (was || t) t || t) t ≡ cond joined (was || t) t
twice true was t = or_assoc was t t ∙ ap (λ (s : Bool). was || s) (or_self t)
twice false was t = refl

-- y writes neither of the cells whose product x is, and x's own cell only where it is x.
pub record Spares (x y : Ask) : Type 0 where
  pub first : same_cell y.to x.a ≡ false
  pub second : same_cell y.to x.b ≡ false
  pub own : So (same_cell y.to x.to) → y ≡ x

module _ (x : Ask) where
  -- x is still to come, or its cell holds what it gives.
  abbrev Sure : List Ask → (Cell → Bool) → Type 0
  Sure xs t = Memᴰ x xs ⊎ (t x.to ≡ given truths x t)

  module _ (y : Ask) (spares : Spares x y) (t : Cell → Bool) where
    -- The cells after y.
    abbrev after : Cell → Bool
    after = set_cell y.to (given truths y t) t

    given_after : given truths x after ≡ given truths x t
    unfolding given set_cell
    given_after =
        by_test (same_cell y.to x.to)
        (λ s. rw (spares.first, spares.second, s, spares.own s) (twice x.joined (t x.to) (t x.a && t x.b)))
        (λ s. rw (spares.first, spares.second, s))

    sure_after : (ys : List Ask) → Sure (y ∷ ys) t → Sure ys after
    unfolding set_cell
    sure_after ys sure =
        by_test (same_cell y.to x.to)
        (λ s. inr (rw given_after (rw (s, spares.own s))))
        (λ s. ⊎_elim
        (λ m. ⊎_elim (λ e. absurd (true≢false (sym (same_self y.to) ∙ rw e at s))) inl (Memᴰ.cases_cons m))
        (λ e. inr (rw (given_after, s) e))
        sure)

  sure_settles : (xs : List Ask) → ((y : Ask) → Memᴰ y xs → Spares x y) → (t : Cell → Bool) → Sure xs t
      → carry truths xs t x.to ≡ given truths x t
  unfolding carry
  sure_settles [] spare t (inl m) = absurd (Memᴰ.not-nil m)
  sure_settles [] spare t (inr e) = e
  sure_settles (y ∷ ys) spare t sure =
      let s = spare y (Memᴰ.head refl) in
      sure_settles ys (λ z m. spare z (Memᴰ.tail m)) (after y s t) (sure_after y s t ys sure) ∙ given_after y s t

  -- In place is all at once: where every ask of a list spares x, one of them, its cell holds in the end what x gives at the beginning.
  pub settles : (xs : List Ask) → ((y : Ask) → Memᴰ y xs → Spares x y) → (t : Cell → Bool) → Memᴰ x xs
      → carry truths xs t x.to ≡ given truths x t
  settles xs spare t m = sure_settles xs spare t (inl m)
