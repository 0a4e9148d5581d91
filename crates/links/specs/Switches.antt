-- The links that switches make, and their joins.
use Rattle.std.specs.Prelude.{Bool, false, cond, ◌&&◌, ◌||◌, List, [], ◌∷◌, ℕ, ◌+◌, eqb}
use Rattle.network.specs.declared.Switch.{Switch}
use Rattle.links.specs.Links.{Graph}

-- The pair (a, b) is the pair (u, v), this way round.
abbrev pub pair : ℕ → ℕ → ℕ → ℕ → Bool
pair a b u v = eqb u a && eqb v b

-- A switch with unequal ends links them in both directions, even where a label is 0; one with equal ends is ignored.
unfoldable pub link : Switch → Graph → Graph
link w g =
    λ u v. cond (eqb w.first w.second) (g u v)
    ((g u v || pair w.first w.second u v) || pair w.second w.first u v)

-- The first switch of a pair sets both labels. Each later one joins, two joins.
unfoldable pub joins_at : Switch → Graph → ℕ
joins_at w g = cond (eqb w.first w.second) 0 (cond (g w.first w.second) 2 0)

-- The links once all switches are added to those of g, and the joins on the way.
unfoldable pub links_from : Graph → List Switch → Graph
links_from g [] = g
links_from g (w ∷ ws) = links_from (link w g) ws

unfoldable pub joins_from : Graph → List Switch → ℕ
joins_from g [] = 0
joins_from g (w ∷ ws) = joins_at w g + joins_from (link w g) ws

-- No links yet.
abbrev pub no_links : Graph
no_links u v = false

-- The bare links of a network's switches, and their joins.
unfoldable pub links_of : List Switch → Graph
links_of ws = links_from no_links ws

unfoldable pub joins_of : List Switch → ℕ
joins_of ws = joins_from no_links ws
