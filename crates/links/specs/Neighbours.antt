-- Which vertices are neighbours.
use Rattle.std.specs.Prelude.{◌≡◌, refl, true, not, ℕ, eqb}
use Rattle.std.proofs.Common.{sym}
use mathlib.Core.List.{List, Memᴰ}
use Rattle.links.specs.Lists.{keep, without}
use Rattle.links.specs.Links.{Graph, neighbours}
use Rattle.links.specs.ListLaws.{keep_in, in_keep, keep_keep, without_in}

module _ (g : Graph) (vs : List ℕ) (p : ℕ) where
  -- A vertex's neighbours are those of the others that are linked to it.
  pub neighbours_others : neighbours g vs p ≡ keep (g p) (without p vs)
  neighbours_others = sym (keep_keep (g p) (λ v. not (eqb p v)) vs)

  -- A neighbour is another vertex, and linked,
  pub neighbours_in : {v : ℕ} → Memᴰ v (neighbours g vs p) → Memᴰ v (without p vs) × (g p v ≡ true)
  neighbours_in m = keep_in (g p) (without p vs) (rw neighbours_others at m)

  -- and every such vertex is a neighbour.
  pub in_neighbours : {v : ℕ} → Memᴰ v (without p vs) → g p v ≡ true → Memᴰ v (neighbours g vs p)
  in_neighbours m l = rw neighbours_others (in_keep (g p) (without p vs) m l)

  -- A vertex is no neighbour of its own.
  pub not_own : ¬ Memᴰ p (neighbours g vs p)
  not_own m = (without_in p vs (neighbours_in m).0).1 refl
