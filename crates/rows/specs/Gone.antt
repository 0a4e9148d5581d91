-- The table once a vertex is eliminated, row by row.
use Rattle.std.specs.Prelude.{◌≡◌, refl, Bool, true, false, cond, ◌&&◌, ◌||◌, List, map, ltb, length, set}
use Rattle.std.proofs.Math.Path.{sym, ap, fun_ext}
use Rattle.std.proofs.Common.{◌∙◌, arith, ltb-true, ltb-false, length-set, get_or-set_same, get_or-set_other}
use Rattle.std.proofs.Math.Bool.{or-false}
use Prim.Native.Nat.{ℕ, ◌+◌, ◌<◌, ◌≤◌}
use Rattle.std.specs.Int.Bits.{bit_or}
use Rattle.std.proofs.Math.ListN.{get_or, get_or-eq_default}
use Rattle.std.proofs.Math.Seq.{ext_get_or}
use Rattle.laws.specs.Tests.{by_test, by_same}
use Rattle.links.specs.Lists.{vertices}
use Rattle.links.specs.Links.{gone}
use Rattle.links.specs.ListLaws.{vertex_at, vertices_long}
use Rattle.network.specs.Network.{side}
use Rattle.rows.specs.Row.{has, has_or, has_none}
use Rattle.rows.specs.Table.{links_in}

-- A row once p, whose row is the second, is eliminated: where it has p it has p's links too.
unfoldable pub row_after : ℕ → ℕ → ℕ → ℕ
row_after row through p = cond (has row p) (bit_or row through) row

-- Every row once p is eliminated.
unfoldable pub eliminated : ℕ → List ℕ → List ℕ
eliminated p links = map (λ u. row_after (get_or links u 0) (get_or links p 0) p) (vertices side)

-- The ways out of `row_after`.
module _ (row through p : ℕ) (t : Bool) (test : t ≡ has row p) where
  pub after_linked : t ≡ true → bit_or row through ≡ row_after row through p
  unfolding row_after
  after_linked e = rw (← test, e)

  pub after_apart : t ≡ false → row ≡ row_after row through p
  unfolding row_after
  after_apart e = rw (← test, e)

-- The first k rows are done, and the others as they were.
pub record Going (old : List ℕ) (p : ℕ) (links : List ℕ) (k : ℕ) : Type 0 where
  pub within : k ≤ side
  pub long : length links ≡ side
  pub done : (u : ℕ) → u < k → get_or links u 0 ≡ row_after (get_or old u 0) (get_or old p 0) p
  pub kept : (u : ℕ) → k ≤ u → get_or links u 0 ≡ get_or old u 0

module _ (old : List ℕ) (p : ℕ) where
  pub going_none : length old ≡ side → Going old p old 0
  going_none e = record { within = omega arith; long = e; done = λ u h. absurd (omega arith); kept = λ u h. refl }

  module _ (links : List ℕ) (k : ℕ) (inv : Going old p links k) where
    pub going_more : k < side → (through : ℕ) → through ≡ get_or old p 0 → (row : ℕ) → row ≡ row_after (get_or links k 0) through p
        → Going old p (set links k row) (k + 1)
    going_more h through t row e =
        record {
          within = omega arith;
          long = length-set links k row ∙ inv.long;
          done = λ u l. by_same u k
              (λ q. rw (q, ← t)
              (get_or-set_same links k row 0 (omega (arith, inv.long)) ∙ e
              ∙ ap (λ (x : ℕ). row_after x through p) (inv.kept k (omega arith))))
              (λ d. get_or-set_other links k u row 0 d ∙ inv.done u (omega arith));
          kept = λ u l. get_or-set_other links k u row 0 (λ q. omega arith) ∙ inv.kept u (omega arith);
        }

    pub going_all : side ≤ k → links ≡ eliminated p old
    unfolding eliminated
    going_all h =
        let row : ℕ → ℕ = λ u. row_after (get_or old u 0) (get_or old p 0) p in
        ext_get_or 0 links (map row (vertices side)) (inv.long ∙ sym (vertices_long row side))
        (λ u l. inv.done u (omega (arith, inv.long)) ∙ sym (vertex_at row side u 0 (omega (arith, inv.long))))

module _ (p : ℕ) (links : List ℕ) where
  pub eliminated_long : length (eliminated p links) ≡ side
  unfolding eliminated
  eliminated_long = vertices_long (λ u. row_after (get_or links u 0) (get_or links p 0) p) side

  row_has : (row through v : ℕ) → has (row_after row through p) v ≡ has row v || (has row p && has through v)
  unfolding row_after
  row_has row through v = by_test (has row p) (λ t. rw t (has_or row through v)) (λ t. rw t (sym (or-false (has row v))))

  inside : (u : ℕ) → u < side → get_or (eliminated p links) u 0 ≡ row_after (get_or links u 0) (get_or links p 0) p
  unfolding eliminated
  inside u h = vertex_at (λ w. row_after (get_or links w 0) (get_or links p 0) p) side u 0 h

  beyond : length links ≡ side → (u : ℕ) → side ≤ u → get_or (eliminated p links) u 0 ≡ row_after (get_or links u 0) (get_or links p 0) p
  unfolding row_after
  beyond long u h =
      rw (get_or-eq_default links 0 {n = u} (omega arith), has_none p)
      (get_or-eq_default (eliminated p links) 0 {n = u} (omega (arith, eliminated_long)))

  -- The links are those of the definition.
  pub eliminated_gone : length links ≡ side → links_in (eliminated p links) ≡ gone p (links_in links)
  unfolding links_in
  eliminated_gone long = fun_ext (λ u. fun_ext (λ v.
      ap (λ (row : ℕ). has row v) (row_is u) ∙ row_has (get_or links u 0) (get_or links p 0) v))
    where
      row_is : (u : ℕ) → get_or (eliminated p links) u 0 ≡ row_after (get_or links u 0) (get_or links p 0) p
      row_is u = by_test (ltb u side) (λ t. inside u (ltb-true u side t)) (λ t. beyond long u (ltb-false u side t))
