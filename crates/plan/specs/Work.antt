-- The work at a pivot, counted by the rows of its neighbours.
use Rattle.std.specs.Prelude.{◌≡◌, Bool, true, false, not, List, eqb, length, get_or}
use Rattle.std.proofs.Math.Path.{sym, ap}
use Rattle.std.proofs.Common.{◌∙◌, arith}
use Rattle.std.proofs.Math.Bool.{cond}
use Prim.Native.Nat.{ℕ, ◌+◌, ◌*◌, ◌^◌, ◌<◌, ◌≤◌}
use Rattle.std.specs.Int.Bits.{bit_and}
use Rattle.std.proofs.lemmas.Nat.{and_le_l}
use Rattle.std.specs.Int.Count.{ones}
use Rattle.elimination.specs.WorkLaws.{neighbour_work, pivot_work}
use Rattle.laws.specs.Tests.{same_turned}
use Rattle.links.specs.Lists.{keep, without, vertices}
use Rattle.links.specs.Links.{Graph}
use Rattle.links.specs.ListLaws.{keep_keep, keep_same}
use Rattle.links.specs.Sums.{total, total_keep, total_same, total_add, total_two, total_swap, Summing, summing_all}
use Rattle.network.specs.Network.{side}
use Rattle.rows.specs.Row.{has, vertices_in, excluding, has_and, vertices_excluding, excluding_most}
use Rattle.rows.specs.Counts.{ones_are}
use Rattle.rows.specs.Table.{links_in}

-- No neighbour has more work: 4, and 2 for each bit of a row.
abbrev pub neighbour_most : ℕ
neighbour_most = 4 + 2 * 64

-- No pivot has more.
abbrev pub pivot_most : ℕ
pivot_most = neighbour_most * side

-- For a neighbour v, 4, one for each other neighbour, and one more for each that v is linked to.
unfoldable pub neighbour_asked : List ℕ → ℕ → ℕ → ℕ
neighbour_asked links near v = cond (has near v) (4 + ones (excluding near v) + ones (bit_and (excluding near v) (get_or links v 0))) 0

-- The ways out of `neighbour_work`.
module _ (links : List ℕ) (near v : ℕ) (t : Bool) (test : t ≡ has near v) where
  pub neighbour_far : t ≡ false → 0 ≡ neighbour_asked links near v
  unfolding neighbour_asked
  neighbour_far e = rw (← test, e)

  pub neighbour_near : t ≡ true → (others a b : ℕ) → others ≡ excluding near v → a ≡ ones others → b ≡ ones (bit_and others (get_or links v 0))
      → 4 + a + b ≡ neighbour_asked links near v
  unfolding neighbour_asked
  neighbour_near e others a b o f g = rw (← test, e, ← o, ← f, ← g)

-- The labels between the vertices of a list, counted at the vertex that each comes from or at the one that it leads to.
labels_swap : (g : Graph) (ns : List ℕ) → total (λ v. total (λ u. cond (g v u) 2 1) (without v ns)) ns
    ≡ total (λ v. total (λ u. cond (g u v) 2 1) (without v ns)) ns
labels_swap g ns =
    total_same _ _ (λ v. total_keep (λ u. cond (g v u) 2 1) (λ u. not (eqb v u)) ns) ns
    ∙ total_swap (λ v u. cond (not (eqb v u)) (cond (g v u) 2 1) 0) ns ns
    ∙ total_same _ _ (λ u. total_same _ _ (λ v. ap (λ (b : Bool). cond (not b) (cond (g v u) 2 1) 0) (same_turned v u)) ns
    ∙ sym (total_keep (λ v. cond (g v u) 2 1) (λ v. not (eqb u v)) ns)) ns

module _ (links : List ℕ) (near n : ℕ) (few : near < 2 ^ n) where
  -- The other neighbours that v is linked to.
  linked_others : (others v : ℕ) → vertices_in n (bit_and others (get_or links v 0)) ≡ keep (links_in links v) (vertices_in n others)
  unfolding vertices_in links_in
  linked_others others v =
      keep_same _ _ (vertices n) (λ u m. has_and others (get_or links v 0) u) ∙ sym (keep_keep (has (get_or links v 0)) (has others) (vertices n))

  -- What is counted at v: the labels from it.
  labels_from : (v : ℕ) → ones (excluding near v) + ones (bit_and (excluding near v) (get_or links v 0))
      ≡ total (λ u. cond (links_in links v u) 2 1) (without v (vertices_in n near))
  labels_from v =
      let others = excluding near v in
      let row = get_or links v 0 in
      let us = without v (vertices_in n near) in
      let are : vertices_in n others ≡ us = vertices_excluding n near v in
      let less : others < 2 ^ n = omega (arith, excluding_most near v) in
      let all : ones others ≡ length us = ones_are n others less ∙ ap length are in
      let linked : ones (bit_and others row) ≡ length (keep (links_in links v) us)
      = ones_are n (bit_and others row) (omega (arith, and_le_l others row)) ∙ ap length (linked_others others v)
      ∙ ap (λ (vs : List ℕ). length (keep (links_in links v) vs)) are in
      omega (arith, total_two (links_in links v) us)

  pivot_is : total (neighbour_asked links near) (vertices n) ≡ pivot_work (links_in links) (vertices_in n near)
  unfolding neighbour_asked pivot_work neighbour_work vertices_in
  pivot_is =
      let g = links_in links in
      let ns = vertices_in n near in
      let from : ℕ → ℕ = λ v. total (λ u. cond (g v u) 2 1) (without v ns) in
      let to : ℕ → ℕ = λ v. total (λ u. cond (g u v) 2 1) (without v ns) in
      sym (total_keep (λ v. 4 + ones (excluding near v) + ones (bit_and (excluding near v) (get_or links v 0))) (has near) (vertices n))
      ∙ total_same _ _ (λ v. omega (arith, labels_from v)) ns
      ∙ sym (total_add (λ v. 4) from ns) ∙ ap (λ (x : ℕ). total (λ v. 4) ns + x) (labels_swap g ns) ∙ total_add (λ v. 4) to ns

  pub pivot_counted : (v sum : ℕ) → Summing (neighbour_asked links near) neighbour_most n v sum → n ≤ v
      → sum ≡ pivot_work (links_in links) (vertices_in n near)
  pivot_counted v sum inv h = summing_all (neighbour_asked links near) neighbour_most n v sum inv h ∙ pivot_is
