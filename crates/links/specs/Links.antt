-- Bare links, rule M, and the order, for any vertex count.
use Rattle.std.specs.Prelude.{Bool, not, ◌&&◌, ◌||◌, List, [], ◌∷◌, ℕ, zero, suc, eqb, length}
use Rattle.links.specs.Lists.{keep, without, lowest, vertices}

-- Which vertices are linked. What it says of a vertex and itself counts for nothing.
abbrev pub Graph : Type 0
Graph = ℕ → ℕ → Bool

-- v is another vertex than p, and linked to it.
abbrev pub beside : Graph → ℕ → ℕ → Bool
beside g p v = not (eqb p v) && g p v

-- The neighbours of p among the remaining vertices vs, ascending as these are.
abbrev pub neighbours : Graph → List ℕ → ℕ → List ℕ
neighbours g vs p = keep (beside g p) vs

-- How many remaining linked vertices p has.
abbrev pub degree : Graph → List ℕ → ℕ → ℕ
degree g vs p = length (neighbours g vs p)

-- The pivot is the vertex with fewest remaining linked vertices; ties go to the lowest number (rule M).
abbrev pub pivot : Graph → List ℕ → ℕ
pivot g [] = 0
pivot g (v ∷ vs) = lowest (degree g (v ∷ vs)) v vs

-- After a pivot all its neighbours are linked pairwise.
abbrev pub gone : ℕ → Graph → Graph
gone p g u v = g u v || (g u p && g p v)

-- The order in which rule M takes the vertices vs, of which there are at most as many as the first argument says.
abbrev pub order_of : ℕ → Graph → List ℕ → List ℕ
order_of zero g vs = []
order_of (suc k) g [] = []
order_of (suc k) g (v ∷ vs) = let p = pivot g (v ∷ vs) in p ∷ order_of k (gone p g) (without p (v ∷ vs))

-- Rule M's order of n vertices.
abbrev pub order : ℕ → Graph → List ℕ
order n g = order_of n g (vertices n)

-- A pivot, and its degree when taken.
pub record Step : Type 0 where
  pub vertex : ℕ
  pub degree : ℕ

-- The steps of an elimination of vs in any order ps.
abbrev pub steps : Graph → List ℕ → List ℕ → List Step
steps g vs [] = []
steps g vs (p ∷ ps) = record { vertex = p; degree = degree g vs p } ∷ steps (gone p g) (without p vs) ps
