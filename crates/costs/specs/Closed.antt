-- The work of an elimination in closed form.
use Rattle.std.specs.Prelude.{◌≡◌, refl, not, cond, ℕ, ◌+◌, ◌*◌, ◌-◌, ◌<◌, eqb, length}
use mathlib.Core.List.{List, [], ◌∷◌, Memᴰ}
use Rattle.std.proofs.Common.{arith, eq-eqb, ne_eqb}
use Rattle.laws.specs.Tests.{by_test}
use Rattle.links.specs.Lists.{without}
use Rattle.links.specs.Links.{Graph, beside, neighbours, degree, gone}
use Rattle.links.specs.ListLaws.{Ascending, keep_all, ascending_keep}
use Rattle.links.specs.Sums.{total}
use Rattle.links.specs.Symmetry.{Symmetric, symmetric_gone}
use Rattle.sheet.specs.Asks.{work}
use Rattle.elimination.specs.Plan.{plan}
use Rattle.elimination.specs.WorkLaws.{label_work, neighbour_work, pivot_work, plan_work}

-- How many of a list are not linked to u.
unfoldable pub unlinked_to : Graph → ℕ → List ℕ → ℕ
unlinked_to g u [] = 0
unlinked_to g u (v ∷ vs) = cond (g u v) 0 1 + unlinked_to g u vs

-- How many unordered pairs of a list are not linked.
unfoldable pub unlinked : Graph → List ℕ → ℕ
unlinked g [] = 0
unlinked g (v ∷ vs) = unlinked_to g v vs + unlinked g vs

-- A pivot with d neighbours, of which f unordered pairs are not linked, costs 2d + 2d² − 2f.
abbrev pub cost : ℕ → ℕ → ℕ
cost d f = 2 * d + 2 * d * d - 2 * f

-- The costs of the pivots of an order, each with the links and vertices that are left when it is taken.
unfoldable pub costs : Graph → List ℕ → List ℕ → ℕ
costs g vs [] = 0
costs g vs (p ∷ ps) = cost (degree g vs p) (unlinked g (neighbours g vs p)) + costs (gone p g) (without p vs) ps

-- The labels to x and those from x, with two for each link that is missing.
ends_work : (g : Graph) → Symmetric g → (x : ℕ) (vs : List ℕ)
    → (total (label_work g x) vs + total (λ v. label_work g v x) vs) + 2 * unlinked_to g x vs ≡ 4 * length vs
unfolding total unlinked_to Symmetric
ends_work g s x [] = refl
ends_work g s x (v ∷ vs) =
    let below = ends_work g s x vs in rw (s v x) (by_test (g x v) (λ e. rw e (omega arith)) (λ e. rw e (omega arith)))

-- With x in front of the neighbours, each other one has the label from x besides.
neighbours_work : (g : Graph) (x : ℕ) (ns vs : List ℕ) → ((v : ℕ) → Memᴰ v vs → x < v)
    → total (neighbour_work g (x ∷ ns)) vs ≡ total (λ v. label_work g v x) vs + total (neighbour_work g ns) vs
unfolding total neighbour_work
neighbours_work g x ns [] above = refl
neighbours_work g x ns (v ∷ vs) above =
    let below = neighbours_work g x ns vs (λ u m. above u (Memᴰ.tail m)) in
    rw (ne_eqb v x (omega (arith, above v (Memᴰ.head refl)))) (omega arith)

-- The work at a pivot, with two for each pair of its neighbours that is not linked: the difference in `cost` is never cut off at 0.
pub pivot_full : (g : Graph) → Symmetric g → (ns : List ℕ) → Ascending ns
    → pivot_work g ns + 2 * unlinked g ns ≡ 2 * length ns + 2 * length ns * length ns
unfolding total pivot_work neighbour_work unlinked
pivot_full g s [] a = refl
pivot_full g s (x ∷ ns) a =
    let others = keep_all (λ u. not (eqb x u)) ns (λ u m. rw (ne_eqb x u (omega (arith, a.0 u m)))) in
    let rest = neighbours_work g x ns ns a.0 in
    rw (eq-eqb x x refl, others) (omega (arith, ends_work g s x ns, pivot_full g s ns a.1))

-- The work of an elimination in any order is what its pivots cost.
pub work_closed : (g : Graph) → Symmetric g → (vs ps : List ℕ) → Ascending vs → work (plan g vs ps) ≡ costs g vs ps
unfolding work plan costs
work_closed g s vs [] a = refl
work_closed g s vs (p ∷ ps) a =
    let now = pivot_full g s (neighbours g vs p) (ascending_keep (beside g p) vs a) in
    let later = work_closed (gone p g) (symmetric_gone p g s) (without p vs) ps (ascending_keep (λ v. not (eqb p v)) vs a) in
    omega (arith, plan_work g vs p ps)
