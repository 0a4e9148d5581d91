-- Bounds on the work of every order, by the number of vertices alone, and on joins, by the number of switches.
use Rattle.std.specs.Prelude.{◌≡◌, refl, not, List, [], ◌∷◌, ℕ, zero, suc, ◌+◌, ◌*◌, ◌-◌, ◌≤◌, eqb, length}
use Rattle.std.proofs.Common.{ap, mul-le-mul, arith}
use Rattle.laws.specs.Tests.{by_test}
use Rattle.links.specs.Lists.{without, vertices}
use Rattle.links.specs.Links.{Graph, beside, neighbours, degree, gone, order}
use Rattle.links.specs.ListLaws.{Ascending, keep_shorter, ascending_keep, without_length, up_to_ascending, up_to_length}
use Rattle.links.specs.Neighbours.{neighbours_others}
use Rattle.links.specs.Sums.{total_most}
use Rattle.links.specs.Switches.{link, joins_at, joins_from, no_links, joins_of}
use Rattle.links.specs.OrderLaws.{TakesAll, none_left, taken, order_takes}
use Rattle.network.specs.declared.Switch.{Switch}
use Rattle.sheet.specs.Asks.{work}
use Rattle.elimination.specs.Plan.{plan, work_of}
use Rattle.elimination.specs.WorkLaws.{label_work, neighbour_work, pivot_work, plan_work}

-- The sum of 2d + 2d² over all d below n.
abbrev pub full : ℕ → ℕ
full zero = 0
full (suc n) = full n + (2 * n + 2 * n * n)

-- In closed form it is 2(n³ − n)/3.
pub full_closed : (n : ℕ) → 3 * full n + 2 * n ≡ 2 * n * n * n
full_closed zero = refl
full_closed (suc n) = omega (arith, full_closed n)

-- It grows with the vertices.
full_grows : (m n : ℕ) → m ≤ n → full m ≤ full n
full_grows zero n h = omega arith
full_grows (suc m) zero h = absurd (omega arith)
full_grows (suc m) (suc n) h =
    let l : m ≤ n = omega arith in omega (arith, full_grows m n l, mul-le-mul l l)

-- A pivot with d neighbours asks for at most 2d + 2d².
pub pivot_most_lem : (g : Graph) (ns : List ℕ) → Ascending ns → pivot_work g ns ≤ 2 * length ns + 2 * length ns * length ns
unfolding pivot_work neighbour_work
pivot_most_lem g ns a =
    omega (
      arith,
      total_most (neighbour_work g ns) (2 + 2 * length ns) ns (λ v m.
          let labels = total_most (label_work g v) 2 (without v ns) (λ u i. by_test (g u v) (λ e. rw e (omega arith)) (λ e. rw e (omega arith))) in
          omega (arith, without_length v ns a m)),
    )

-- A vertex's neighbours are no more than the others.
degree_most : (g : Graph) (vs : List ℕ) (p : ℕ) → degree g vs p ≤ length (without p vs)
degree_most g vs p = rw (neighbours_others g vs p) (keep_shorter (g p) (without p vs))

-- The work of every order that takes vs is at most the full sum.
pub work_bound : (g : Graph) (vs ps : List ℕ) → TakesAll vs ps → Ascending vs → work (plan g vs ps) ≤ full (length vs)
unfolding work plan
work_bound g vs ps none_left a = omega arith
work_bound g vs ps (taken {ps = rest} p m t) a =
    let k : ℕ = length (without p vs) in
    let few : degree g vs p ≤ k = degree_most g vs p in
    let now = pivot_most_lem g (neighbours g vs p) (ascending_keep (beside g p) vs a) in
    let later : work (plan (gone p g) (without p vs) rest) ≤ full k
    = work_bound (gone p g) (without p vs) rest t (ascending_keep (λ v. not (eqb p v)) vs a) in
    omega (arith, plan_work g vs p rest, mul-le-mul few few, ap full (without_length p vs a m))

-- So is rule M's work for at most n vertices.
pub work_most : (m n : ℕ) → m ≤ n → (g : Graph) → work_of m g ≤ full n
work_most m n h g =
    omega (arith, work_bound g (vertices m) (order m g) (order_takes m g) (up_to_ascending m 0), ap full (up_to_length m 0), full_grows m n h)

-- In closed form: three times the work is at most 2n³ − 2n.
pub work_cubic : (m n : ℕ) → m ≤ n → (g : Graph) → 3 * work_of m g + 2 * n ≤ 2 * n * n * n
work_cubic m n h g = omega (arith, work_most m n h g, full_closed n)

-- A switch has at most two joins,
joins_twice : (g : Graph) (ws : List Switch) → joins_from g ws ≤ 2 * length ws
unfolding joins_from joins_at
joins_twice g [] = omega arith
joins_twice g (w ∷ ws) =
    let later = joins_twice (link w g) ws in
    by_test (eqb w.first w.second)
    (λ t. rw t (omega arith))
    (λ t. rw t (by_test (g w.first w.second) (λ l. rw l (omega arith)) (λ l. rw l (omega arith))))

-- and the first of all has none.
pub joins_most : (ws : List Switch) (m : ℕ) → length ws ≤ m → joins_of ws ≤ 2 * m - 2
unfolding joins_of joins_from joins_at
joins_most [] m h = omega arith
joins_most (w ∷ ws) m h =
    let later = joins_twice (link w no_links) ws in
    by_test (eqb w.first w.second) (λ t. rw t (omega arith)) (λ t. rw t (omega arith))
