-- What stands at a place of a list.
use Rattle.std.specs.Prelude.{◌≡◌, ℕ, zero, suc, ◌<◌, ltb, length, get_or, set, replicate}
use Rattle.std.proofs.Common.{⊎_elim, arith, ltb-true, ltb-false}
use mathlib.Core.List.Memᴰ
use mathlib.Core.List.{List, [], ◌∷◌, Memᴰ}
use Rattle.std.proofs.lemmas.List.{length-replicate, get_or-replicate}
use Rattle.std.proofs.Math.ListN.{get_or-eq_default}
use Rattle.laws.specs.Tests.{by_test}

-- A list of one value has it at every place, where it is the default too;
pub at_same : {A : Type 0} (x : A) (n k : ℕ) → get_or (replicate n x) k x ≡ x
at_same x n k =
    by_test (ltb k n)
    (λ t. get_or-replicate n k x x (ltb-true k n t))
    (λ t. get_or-eq_default (replicate n x) x {n = k} (omega (arith, ltb-false k n t, length-replicate n x)))

-- so a list of zeros is 0 at every place.
pub at_zeros : (n k : ℕ) → get_or {A = ℕ} (replicate n 0) k 0 ≡ 0
at_zeros = at_same 0

-- Where every entry is below a bound and what is written is too, every entry stays so.
pub set_below : (xs : List ℕ) (k x bound : ℕ) → x < bound → ((j : ℕ) → get_or xs j 0 < bound) → (j : ℕ) → get_or (set xs k x) j 0 < bound
set_below [] k x bound h b j = b j
set_below (y ∷ xs) zero x bound h b zero = h
set_below (y ∷ xs) zero x bound h b (suc j) = b (suc j)
set_below (y ∷ xs) (suc k) x bound h b zero = b zero
set_below (y ∷ xs) (suc k) x bound h b (suc j) = set_below xs k x bound h (λ i. b (suc i)) j

-- A fact of each entry is one of each member.
pub members :
    {A : Type 0} (P : A → Type 0) (d : A) (xs : List A) → ((k : ℕ) → k < length xs → P (get_or xs k d)) → (x : A) → Memᴰ x xs → P x
members P d [] all x m = absurd (Memᴰ.not-nil m)
members P d (y ∷ xs) all x m =
    ⊎_elim (λ e. rw e (all 0 (omega arith))) (λ n. members P d xs (λ k h. all (suc k) (omega arith)) x n) (Memᴰ.cases_cons m)
