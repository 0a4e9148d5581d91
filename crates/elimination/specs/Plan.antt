-- The operations that the elimination asks for, computed from the bare links and an order alone (000, figure 1).
use Rattle.std.specs.Prelude.{true, ℕ}
use mathlib.Core.List.{List, [], ◌∷◌, ◌++◌, map, flat_map}
use Rattle.links.specs.Lists.{without, vertices}
use Rattle.links.specs.Links.{Graph, neighbours, gone, order}
use Rattle.sheet.specs.Asks.{ask, work}
use Rattle.sheet.specs.declared.Ask.{Ask}
use Rattle.sheet.specs.declared.Cell.TheVariants.{Start, Label}

-- start(v) becomes start(v) or (start(pivot) and label(pivot,v)).
abbrev pub pass_start : ℕ → ℕ → Ask
pass_start p v = ask true (Start v) (Start p) (Label p v)

-- With t = label(u,pivot) and label(pivot,v), label(u,v) becomes label(u,v) or t if linked, else t.
abbrev pub pass_label : Graph → ℕ → ℕ → ℕ → Ask
pass_label g p v u = ask (g u v) (Label u v) (Label u p) (Label p v)

-- For each remaining neighbour v of the pivot, ascending: its start, then for each other remaining neighbour u, ascending, the label from u. Links
-- between u and v are absent or present as they stood before this pivot.
unfoldable pub forward : Graph → ℕ → List ℕ → List Ask
forward g p ns = flat_map (λ v. pass_start p v ∷ map (pass_label g p v) (without v ns)) ns

-- The answer is the start value, then for each u that was a remaining neighbour, ascending: answer or (answer(u) and label(u,pivot)).
unfoldable pub backward : ℕ → List ℕ → List Ask
backward p ns = map (λ u. ask true (Start p) (Start u) (Label u p)) ns

-- Each pivot is passed, then the pivots after it are eliminated and answered, then the pivot is answered: so from last pivot to first. Afterwards all
-- its neighbours are linked pairwise.
unfoldable pub plan : Graph → List ℕ → List ℕ → List Ask
plan g vs [] = []
plan g vs (p ∷ ps) =
    let ns = neighbours g vs p in
    forward g p ns ++ (plan (gone p g) (without p vs) ps ++ backward p ns)

-- By rule M, of n vertices.
abbrev pub plan_of : ℕ → Graph → List Ask
plan_of n g = plan g (vertices n) (order n g)

-- The work that is reported.
abbrev pub work_of : ℕ → Graph → ℕ
work_of n g = work (plan_of n g)
