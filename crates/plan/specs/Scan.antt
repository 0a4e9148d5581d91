-- The search for the pivot: the first remaining vertex with the fewest neighbours.
use Rattle.std.specs.Prelude.{◌≡◌, Bool, true, false, cond, ltb, length}
use Rattle.std.proofs.Math.Path.{refl}
use Rattle.std.proofs.Common.{ap, ◌∙◌, add-one}
use mathlib.Core.List.{List, [], ◌∷◌, Memᴰ}
use Prim.Native.Nat.{ℕ, suc, ◌+◌, ◌-◌, ◌^◌, ◌<◌, ◌≤◌}
use native.Mathlib.Omega.{arith}
use Rattle.std.proofs.Math.Nat.{sub-zero}
use borrow.Author.Tests.{lt-ltb, le-ltb}
use Rattle.std.specs.Int.Count.{ones}
use Rattle.laws.specs.Tests.{by_test}
use Rattle.links.specs.Lists.{keep, lowest, up_to, vertices}
use Rattle.links.specs.Links.{Graph, beside, degree, pivot}
use Rattle.links.specs.ListLaws.{keep_in, keep_shorter, lowest_in, up_to_bounds, up_to_length}
use Rattle.network.specs.Network.{side}
use Rattle.rows.specs.Row.{has, vertices_in}
use Rattle.rows.specs.Table.{links_in, near_row, degree_in, degree_is}
use Rattle.plan.specs.declared.Taken.{Taken}

-- v, where its number is below that of the best so far.
unfoldable pub better : (ℕ → ℕ) → ℕ → Taken → Taken
better D v best = cond (ltb (D v) best.degree) (record { vertex = v; degree = D v }) best

-- The best of a list, after the best so far.
unfoldable pub scan : (ℕ → ℕ) → Taken → List ℕ → Taken
scan D best [] = best
scan D best (v ∷ vs) = scan D (better D v best) vs

-- Nothing so far: any degree is below.
abbrev pub nothing : Taken
nothing = record { vertex = 0; degree = side + 1 }

-- A turn of the search.
unfoldable pub turn : List ℕ → ℕ → ℕ → Taken → Taken
turn links rest v best = cond (has rest v) (better (degree_in links rest) v best) best

-- The ways out of `tried`.
module _ (links : List ℕ) (rest v : ℕ) (best : Taken) (t : Bool) (test : t ≡ has rest v) where
  pub turn_gone : t ≡ false → best ≡ turn links rest v best
  unfolding turn
  turn_gone e = rw (← test, e)

  module _ (e : t ≡ true) (near d : ℕ) (is : near ≡ near_row links rest v) (counted : d ≡ ones near) where
    pub turn_wins : d < best.degree → (r : Taken) → r ≡ record { vertex = v; degree = d } → r ≡ turn links rest v best
    unfolding turn better degree_in
    turn_wins h r s = rw (← test, e, ← is, ← counted, lt-ltb d best.degree h) s

    pub turn_loses : best.degree ≤ d → best ≡ turn links rest v best
    unfolding turn better degree_in
    turn_loses h = rw (← test, e, ← is, ← counted, le-ltb d best.degree h)

-- The vertices below v have been tried.
pub record Scanning (links : List ℕ) (rest n v : ℕ) (best : Taken) : Type 0 where
  pub within : v ≤ n
  pub left :
      scan (degree_in links rest) best (keep (has rest) (up_to (n - v) v)) ≡ scan (degree_in links rest) nothing (vertices_in n rest)

-- The vertex that rule M takes, with its degree.
pub record Takes (links : List ℕ) (rest n : ℕ) (r : Taken) : Type 0 where
  pub vertex : r.vertex ≡ pivot (links_in links) (vertices_in n rest)
  pub degree : r.degree ≡ degree (links_in links) (vertices_in n rest) r.vertex
  pub present : Memᴰ r.vertex (vertices_in n rest)
  pub inside : r.vertex < n

module _ (D : ℕ → ℕ) where
  scan_lowest : (b : ℕ) (vs : List ℕ)
      → scan D (record { vertex = b; degree = D b }) vs ≡ record { vertex = lowest D b vs; degree = D (lowest D b vs) }
  unfolding scan better
  scan_lowest b [] = refl
  scan_lowest b (v ∷ vs) = by_test (ltb (D v) (D b)) (λ t. rw t (scan_lowest v vs)) (λ t. rw t (scan_lowest b vs))

  scan_first : (v : ℕ) (vs : List ℕ) → D v < side + 1
      → scan D nothing (v ∷ vs) ≡ record { vertex = lowest D v vs; degree = D (lowest D v vs) }
  unfolding scan better
  scan_first v vs h = rw (lt-ltb (D v) (side + 1) h) (scan_lowest v vs)

pivot_is : (g : Graph) (all : List ℕ) (v : ℕ) (vs : List ℕ) → all ≡ v ∷ vs → lowest (degree g all) v vs ≡ pivot g all
pivot_is g all v vs e = rw e

module _ (links : List ℕ) (rest n : ℕ) where
  pub scanning_none : (best : Taken) → best ≡ nothing → Scanning links rest n 0 best
  unfolding vertices_in
  scanning_none best e = record { within = omega arith; left = rw (e, sub-zero) }

  in_range : {v : ℕ} → Memᴰ v (vertices_in n rest) → v < n
  unfolding vertices_in
  in_range m = omega (arith, up_to_bounds n 0 (keep_in (has rest) (vertices n) m).0)

  degree_most : (p : ℕ) → degree (links_in links) (vertices_in n rest) p ≤ n
  unfolding vertices_in
  degree_most p =
      omega (arith, keep_shorter (beside (links_in links) p) (keep (has rest) (vertices n)), keep_shorter (has rest) (vertices n), up_to_length n 0)

  taken : (D : ℕ → ℕ) → D ≡ degree (links_in links) (vertices_in n rest) → (vs : List ℕ) → vertices_in n rest ≡ vs → 0 < length vs → n ≤ side
      → (r : Taken) → r ≡ scan D nothing vs → Takes links rest n r
  taken D is [] q h l r e = absurd (omega arith)
  taken D is (v ∷ vs) q h l r e =
      let at : (p : ℕ) → D p ≡ degree (links_in links) (vertices_in n rest) p = λ p. ap (λ (F : ℕ → ℕ). F p) is in
      let f : r ≡ record { vertex = lowest D v vs; degree = D (lowest D v vs) } = e ∙ scan_first D v vs (omega (arith, at v, degree_most v)) in
      let m : Memᴰ (lowest D v vs) (vertices_in n rest) = rw q (lowest_in D v vs) in
      rw f
      (record {
        vertex = ap (λ (F : ℕ → ℕ). lowest F v vs) is ∙ pivot_is (links_in links) (vertices_in n rest) v vs q;
        degree = at (lowest D v vs);
        present = m;
        inside = in_range m;
      })

  module _ (v : ℕ) (best : Taken) (inv : Scanning links rest n v best) where
    pub scanning_more : v < n → (r : Taken) → r ≡ turn links rest v best → Scanning links rest n (v + 1) r
    unfolding turn scan
    scanning_more h r e =
        let q : n - v ≡ suc (n - suc v) = omega arith in
        let i = rw q at inv.left in
        record {
          within = omega arith;
          left = rw (add-one, e) (by_test (has rest v) (λ t. rw t (rw t at i)) (λ t. rw t (rw t at i)));
        }

    pub scanning_all : n ≤ v → n ≤ side → rest < 2 ^ n → 0 < length (vertices_in n rest) → Takes links rest n best
    unfolding scan
    scanning_all h l few s =
        let q : n - v ≡ 0 = omega arith in
        taken (degree_in links rest) (degree_is links n rest few) (vertices_in n rest) refl s l best (rw q at inv.left)
