-- Laws of orders, and of rule M's: it takes each vertex, and none other.
use Rattle.std.specs.Prelude.{◌≡◌, refl, not, ℕ, zero, suc, ◌<◌, ◌≤◌, eqb, length}
use Rattle.std.proofs.Common.{ap, sym, ◌∙◌, ⊎_elim, arith}
use mathlib.Core.List.Memᴰ
use mathlib.Core.List.{List, [], ◌∷◌, Memᴰ}
use Rattle.links.specs.Lists.{without, vertices}
use Rattle.links.specs.Links.{Graph, degree, pivot, gone, order_of, order, steps}
use Rattle.links.specs.ListLaws.{Ascending, ascending_keep, without_length, without_in, lowest_in, up_to_ascending, up_to_bounds, up_to_length}

-- An order takes all of the vertices vs: each is there when its turn comes, and none is left.
pub data TakesAll : List ℕ → List ℕ → Type 0 where
  none_left : TakesAll [] []
  taken : {vs ps : List ℕ} (p : ℕ) → Memᴰ p vs → TakesAll (without p vs) ps → TakesAll vs (p ∷ ps)

-- Such an order has as many,
takes_length : {vs ps : List ℕ} → TakesAll vs ps → Ascending vs → length ps ≡ length vs
takes_length none_left a = refl
takes_length (taken {vs} p m rest) a = ap suc (takes_length rest (ascending_keep (λ u. not (eqb p u)) vs a)) ∙ without_length p vs a m

-- and none but these.
takes_in : {vs ps : List ℕ} → TakesAll vs ps → {v : ℕ} → Memᴰ v ps → Memᴰ v vs
takes_in none_left n = n
takes_in (taken {vs} p m rest) n = ⊎_elim (λ e. Memᴰ.cast e m) (λ k. (without_in p vs (takes_in rest k)).0) (Memᴰ.cases_cons n)

-- A step for each of an order.
pub steps_length : (g : Graph) (vs ps : List ℕ) → length (steps g vs ps) ≡ length ps
steps_length g vs [] = refl
steps_length g vs (p ∷ ps) = ap suc (steps_length (gone p g) (without p vs) ps)

-- The next of rule M's order, where vertices remain.
pub order_more : (k : ℕ) (g : Graph) (vs : List ℕ) (p : ℕ) → p ≡ pivot g vs → 0 < length vs
    → order_of (suc k) g vs ≡ p ∷ order_of k (gone p g) (without p vs)
order_more k g [] p e h = absurd (omega arith)
order_more k g (v ∷ vs) p e h = ap (λ (q : ℕ). q ∷ order_of k (gone q g) (without q (v ∷ vs))) (sym e)

order_of_takes : (k : ℕ) (g : Graph) (vs : List ℕ) → Ascending vs → length vs ≤ k → TakesAll vs (order_of k g vs)
order_of_takes zero g [] a h = none_left
order_of_takes zero g (v ∷ vs) a h = absurd (omega arith)
order_of_takes (suc k) g [] a h = none_left
order_of_takes (suc k) g (v ∷ vs) a h =
    let p = pivot g (v ∷ vs) in
    let m = lowest_in (degree g (v ∷ vs)) v vs in
    let less = without_length p (v ∷ vs) a m in
    taken p m (order_of_takes k (gone p g) (without p (v ∷ vs)) (ascending_keep (λ u. not (eqb p u)) (v ∷ vs) a) (omega arith))

module _ (n : ℕ) (g : Graph) where
  -- Rule M's order takes every vertex,
  pub order_takes : TakesAll (vertices n) (order n g)
  order_takes = let l = up_to_length n 0 in order_of_takes n g (vertices n) (up_to_ascending n 0) (omega arith)

  -- so it has n,
  pub order_length : length (order n g) ≡ n
  order_length = takes_length order_takes (up_to_ascending n 0) ∙ up_to_length n 0

  -- each below n.
  pub order_in : {v : ℕ} → Memᴰ v (order n g) → v < n
  order_in m = omega (arith, up_to_bounds n 0 (takes_in order_takes m))
