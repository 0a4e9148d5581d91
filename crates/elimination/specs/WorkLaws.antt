-- The work of a plan, pivot by pivot, over any graph and order.
use Rattle.std.specs.Prelude.{◌≡◌, refl, cond, ℕ, ◌+◌}
use mathlib.Core.List.{List, [], ◌∷◌, ◌++◌, map, flat_map}
use Rattle.std.proofs.Common.{arith}
use Rattle.links.specs.Lists.{without}
use Rattle.links.specs.Links.{Graph, neighbours, gone}
use Rattle.links.specs.Sums.{total, total_add, total_same}
use Rattle.sheet.specs.Asks.{work}
use Rattle.sheet.specs.AskLaws.{work_append}
use Rattle.elimination.specs.Plan.{pass_start, pass_label, forward, backward, plan}

-- The work at a label: the product, and the sum where u and v are linked.
abbrev pub label_work : Graph → ℕ → ℕ → ℕ
label_work g v u = cond (g u v) 2 1

-- The work at a neighbour v: 2 at its start, that at the label from each other neighbour, and 2 when the pivot is answered.
unfoldable pub neighbour_work : Graph → List ℕ → ℕ → ℕ
neighbour_work g ns v = 4 + total (label_work g v) (without v ns)

-- The work at a pivot with the neighbours ns.
unfoldable pub pivot_work : Graph → List ℕ → ℕ
pivot_work g ns = total (neighbour_work g ns) ns

labels_work : (g : Graph) (p v : ℕ) (us : List ℕ) → work (map (pass_label g p v) us) ≡ total (label_work g v) us
unfolding work total
labels_work g p v [] = refl
labels_work g p v (u ∷ us) = omega (arith, labels_work g p v us)

forward_work : (g : Graph) (p : ℕ) (ns vs : List ℕ)
    → work (flat_map (λ v. pass_start p v ∷ map (pass_label g p v) (without v ns)) vs) ≡ total (λ v. 2 + total (label_work g v) (without v ns)) vs
unfolding work total flat_map
forward_work g p ns [] = refl
forward_work g p ns (v ∷ vs) =
    let pass = map (pass_label g p v) (without v ns) in
    let rest = flat_map (λ u. pass_start p u ∷ map (pass_label g p u) (without u ns)) vs in
    omega (arith, work_append pass rest, labels_work g p v (without v ns), forward_work g p ns vs)

backward_work : (p : ℕ) (ns : List ℕ) → work (backward p ns) ≡ total (λ u. 2) ns
unfolding work total backward
backward_work p [] = refl
backward_work p (u ∷ us) = omega (arith, backward_work p us)

-- What is asked at a pivot is its work.
pub pivot_work_lem : (g : Graph) (p : ℕ) (ns : List ℕ) → work (forward g p ns) + work (backward p ns) ≡ pivot_work g ns
unfolding forward neighbour_work pivot_work
pivot_work_lem g p ns =
    let f = forward_work g p ns ns in
    let b = backward_work p ns in
    let t = total_add (λ v. 2 + total (label_work g v) (without v ns)) (λ u. 2) ns in
    let s = total_same (λ v. (2 + total (label_work g v) (without v ns)) + 2) (λ v. 4 + total (label_work g v) (without v ns))
    (λ v. omega arith) ns in
    omega arith

-- A plan's work is that at its first pivot, and that of the rest.
pub plan_work : (g : Graph) (vs : List ℕ) (p : ℕ) (ps : List ℕ)
    → work (plan g vs (p ∷ ps)) ≡ pivot_work g (neighbours g vs p) + work (plan (gone p g) (without p vs) ps)
unfolding plan
plan_work g vs p ps =
    let ns = neighbours g vs p in
    let rest = plan (gone p g) (without p vs) ps in
    omega (arith, work_append (forward g p ns) (rest ++ backward p ns), work_append rest (backward p ns), pivot_work_lem g p ns)
