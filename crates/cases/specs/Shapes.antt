-- Which networks are built by adding terminals: a triangle and a ring of four are, four vertices all linked are not.
use Rattle.std.specs.Prelude.{refl, ◌≤◌}
use Rattle.std.proofs.Common.{ap, arith}
use mathlib.Core.List.{Memᴰ}
use Rattle.costs.specs.Built.{Built, nothing, alone, branch, across}
use Rattle.costs.proofs.SeriesParallel.{built_few, built_iff}
use Rattle.links.specs.Links.{Step, order, steps}
use Rattle.links.specs.Lists.{vertices}
use Rattle.links.specs.Switches.{link, links_from, links_of}
use Rattle.links.specs.Symmetry.{Symmetric, symmetric_links}
use Rattle.cases.specs.Cases.{all_linked, ring}

-- Vertex 0, then 1 linked to it, then 2 linked to both, whose link is kept.
pub triangle_built : Built all_linked (vertices 3)
triangle_built =
    across 2 0 1 (Memᴰ.tail (Memᴰ.tail (Memᴰ.head refl)))
    (branch 1 0 (Memᴰ.tail (Memᴰ.head refl)) (alone 0 (Memᴰ.head refl) nothing refl (λ u v mu mv d. refl)) refl (λ u v mu mv d. refl))
    refl (refl, refl) (λ u v mu mv d p q. refl)

-- Three in a triangle, then 3 linked to 0 and 2, whose link is dropped: rule M finds an order that shows it.
pub ring_built : Built (links_of ring) (vertices 4)
unfolding link links_from links_of
ring_built = (built_iff 4 (links_of ring) (symmetric_links ring)).1 few
  where
    few : (s : Step) → Memᴰ s (steps (links_of ring) (vertices 4) (order 4 (links_of ring))) → s.degree ≤ 2
    few s (Memᴰ.head e) = omega (arith, ap (λ (x : Step). x.degree) e)
    few s (Memᴰ.tail (Memᴰ.head e)) = omega (arith, ap (λ (x : Step). x.degree) e)
    few s (Memᴰ.tail (Memᴰ.tail (Memᴰ.head e))) = omega (arith, ap (λ (x : Step). x.degree) e)
    few s (Memᴰ.tail (Memᴰ.tail (Memᴰ.tail (Memᴰ.head e)))) = omega (arith, ap (λ (x : Step). x.degree) e)
    few s (Memᴰ.tail (Memᴰ.tail (Memᴰ.tail (Memᴰ.tail m)))) = elim m [ ]

-- The first pivot would have three neighbours.
pub four_not_built : Built all_linked (vertices 4) → ⊥
unfolding Symmetric
four_not_built b =
    let first = built_few 4 all_linked (λ u v. refl) b (record { vertex = 0; degree = 3 }) (Memᴰ.head refl) in
    absurd (omega arith)
