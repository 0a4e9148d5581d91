-- Sums over lists of vertices, and the loop that adds the terms of the vertices up.
use Rattle.std.specs.Prelude.{◌≡◌, refl, Bool, cond, length}
use Rattle.std.proofs.Common.{sym, mul-suc}
use mathlib.Core.List.{List, [], ◌∷◌, Memᴰ}
use Prim.Native.Nat.{ℕ, suc, ◌+◌, ◌*◌, ◌-◌, ◌<◌, ◌≤◌}
use native.Mathlib.Omega.{arith}
use Rattle.std.proofs.Math.Numerals.{add-one}
use Rattle.std.proofs.Math.Nat.{sub-zero}
use Rattle.laws.specs.Tests.{by_test}
use Rattle.links.specs.Lists.{keep, up_to, vertices}

-- The sum of f over a list.
unfoldable pub total : (ℕ → ℕ) → List ℕ → ℕ
total f [] = 0
total f (v ∷ vs) = f v + total f vs

-- A sum over those that pass is one over all, with nothing for the others.
pub total_keep : (f : ℕ → ℕ) (t : ℕ → Bool) (vs : List ℕ) → total f (keep t vs) ≡ total (λ v. cond (t v) (f v) 0) vs
unfolding total
total_keep f t [] = refl
total_keep f t (v ∷ vs) =
    let below = total_keep f t vs in by_test (t v) (λ e. rw e (omega arith)) (λ e. rw e (omega arith))

-- Terms that agree give equal sums.
pub total_same : (f h : ℕ → ℕ) → ((v : ℕ) → f v ≡ h v) → (vs : List ℕ) → total f vs ≡ total h vs
unfolding total
total_same f h e [] = refl
total_same f h e (v ∷ vs) = omega (arith, e v, total_same f h e vs)

-- A sum of sums.
pub total_add : (f h : ℕ → ℕ) (vs : List ℕ) → total f vs + total h vs ≡ total (λ v. f v + h v) vs
unfolding total
total_add f h [] = refl
total_add f h (v ∷ vs) = omega (arith, total_add f h vs)

-- One for each and one more for those that pass.
pub total_two : (t : ℕ → Bool) (vs : List ℕ) → total (λ v. cond (t v) 2 1) vs ≡ length vs + length (keep t vs)
unfolding total
total_two t [] = refl
total_two t (v ∷ vs) =
    let below = total_two t vs in by_test (t v) (λ e. rw e (omega arith)) (λ e. rw e (omega arith))

total_none : (vs : List ℕ) → total (λ v. 0) vs ≡ 0
unfolding total
total_none [] = refl
total_none (v ∷ vs) = omega (arith, total_none vs)

-- A table of terms summed by rows or by columns.
pub total_swap : (f : ℕ → ℕ → ℕ) (us vs : List ℕ) → total (λ u. total (f u) vs) us ≡ total (λ v. total (λ u. f u v) us) vs
unfolding total
total_swap f [] vs = sym (total_none vs)
total_swap f (u ∷ us) vs = omega (arith, total_swap f us vs, total_add (f u) (λ v. total (λ w. f w v) us) vs)

-- Where no term is above b, the sum is at most b for each.
pub total_most : (f : ℕ → ℕ) (b : ℕ) (vs : List ℕ) → ((v : ℕ) → Memᴰ v vs → f v ≤ b) → total f vs ≤ b * length vs
unfolding total
total_most f b [] most = omega arith
total_most f b (v ∷ vs) most =
    let below = total_most f b vs (λ u m. most u (Memᴰ.tail m)) in
    rw mul-suc (omega (arith, most v (Memᴰ.head refl)))

-- The terms of the vertices below i have been added, none of them above b.
pub record Summing (f : ℕ → ℕ) (b n i sum : ℕ) : Type 0 where
  pub within : i ≤ n
  pub most : sum ≤ b * i
  pub rest : sum + total f (up_to (n - i) i) ≡ total f (vertices n)

module _ (f : ℕ → ℕ) (b n : ℕ) where
  pub summing_none : Summing f b n 0 0
  summing_none = record { within = omega arith; most = omega arith; rest = rw sub-zero (omega arith) }

  module _ (i sum : ℕ) (inv : Summing f b n i sum) where
    pub summing_more : i < n → (x : ℕ) → x ≡ f i → x ≤ b → Summing f b n (i + 1) (sum + x)
    unfolding total
    summing_more h x e l =
        let q : n - i ≡ suc (n - suc i) = omega arith in
        let r : sum + (f i + total f (up_to (n - suc i) (suc i))) ≡ total f (vertices n) = rw q at inv.rest in
        record { within = omega arith; most = rw (add-one, mul-suc) (omega arith); rest = rw add-one (omega arith) }

    pub summing_all : n ≤ i → sum ≡ total f (vertices n)
    unfolding total
    summing_all h =
        let q : n - i ≡ 0 = omega arith in
        omega (arith, rw q at inv.rest)
