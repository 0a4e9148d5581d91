-- Links go both ways.
use Rattle.std.specs.Prelude.{◌≡◌, refl, Bool, true, false, ◌||◌, List, [], ◌∷◌, ℕ, eqb}
use Rattle.std.proofs.Math.Bool.{and_comm, or_comm}
use Rattle.network.specs.declared.Switch.{Switch}
use Rattle.links.specs.Links.{Graph, gone}
use Rattle.links.specs.Switches.{link, links_from, no_links, links_of}

-- Where u is linked to v, v is linked to u.
unfoldable pub Symmetric : Graph → Type 0
Symmetric g = (u v : ℕ) → g u v ≡ g v u

-- It is so with no links,
pub symmetric_none : Symmetric no_links
unfolding Symmetric
symmetric_none = λ u v. refl

or_swap : (a b c : Bool) → (a || b) || c ≡ (a || c) || b
or_swap true b c = refl
or_swap false b c = or_comm b c

-- and stays so with those of one switch more.
pub symmetric_link : (w : Switch) (g : Graph) → Symmetric g → Symmetric (link w g)
unfolding Symmetric link
symmetric_link w g s =
    λ u v. rw (s u v, and_comm (eqb u w.first) (eqb v w.second), and_comm (eqb u w.second) (eqb v w.first))
    (rw (or_swap (g v u)))

symmetric_from : (ws : List Switch) (g : Graph) → Symmetric g → Symmetric (links_from g ws)
unfolding links_from
symmetric_from [] g s = s
symmetric_from (w ∷ ws) g s = symmetric_from ws (link w g) (symmetric_link w g s)

-- So do the bare links of a network's switches,
pub symmetric_links : (ws : List Switch) → Symmetric (links_of ws)
unfolding links_of
symmetric_links ws = symmetric_from ws no_links symmetric_none

-- and those that a pivot leaves.
pub symmetric_gone : (p : ℕ) (g : Graph) → Symmetric g → Symmetric (gone p g)
unfolding Symmetric
symmetric_gone p g s = λ u v. rw (s u v, s u p, s p v, and_comm (g p u) (g v p))
