-- Networks built one terminal at a time are just those that rule M eliminates with at most two neighbours at each step.
use Rattle.std.specs.Prelude.{◌≡◌, refl, ◌≢◌, ◌↔◌, not, ℕ, ◌*◌, ◌≤◌, eqb, length}
use Rattle.std.proofs.Common.{sym, ap, ◌∙◌, mul-le-mul, arith}
use mathlib.Core.List.{List, [], ◌∷◌, Memᴰ}
use Rattle.links.specs.Lists.{without, vertices}
use Rattle.links.specs.Links.{Graph, beside, neighbours, degree, gone, order}
use Rattle.links.specs.ListLaws.{Ascending, without_in, ascending_keep, up_to_ascending}
use Rattle.links.specs.OrderLaws.{TakesAll, order_takes, order_length}
use Rattle.links.specs.Symmetry.{Symmetric, symmetric_gone}
use Rattle.sheet.specs.Asks.{work}
use Rattle.elimination.specs.Plan.{plan, work_of}
use Rattle.elimination.specs.WorkLaws.{plan_work}
use Rattle.costs.specs.Bounds.{pivot_most_lem}
use Rattle.costs.specs.Built.{AsBefore, Built, nothing, alone, branch, across}
use Rattle.costs.specs.Before.{gone_none, gone_one, gone_linked, gone_two, but_none, neighbours_before}
use Rattle.costs.specs.Narrow.{Few, Narrow, done, next, narrow_few, few_narrow}

-- What is narrow is built: the terminals are added in the opposite order.
narrow_built : {g : Graph} {vs : List ℕ} → Symmetric g → Narrow g vs → Built g vs
narrow_built s done = nothing
narrow_built {g} {vs} s (next w m few rest) = last (neighbours g vs w) refl few (narrow_built (symmetric_gone w g s) rest)
  where
    last : (ns : List ℕ) → neighbours g vs w ≡ ns → length ns ≤ 2 → Built (gone w g) (without w vs) → Built g vs
    last [] e l before = alone w m before e (gone_none g s vs w e)
    last (a ∷ []) e l before = branch w a m before e (gone_one g s vs w a e)
    last (a ∷ b ∷ []) e l before = across w a b m before e (gone_linked g s vs w a b e) (gone_two g s vs w a b e)
    last (a ∷ b ∷ c ∷ ns) e l before = absurd (omega arith)

-- The network g of vs is linked as h, and w goes. Before it was added the network was k.
module _ {h : Graph} {vs : List ℕ} (g : Graph) (inside : AsBefore vs h g) (w : ℕ) (m : Memᴰ w vs) (k : Graph) where
  first : (ns : List ℕ) → neighbours h vs w ≡ ns → length ns ≤ 2 → (neighbours g vs w ≡ ns → AsBefore (without w vs) k (gone w g))
      → (AsBefore (without w vs) k (gone w g) → Narrow (gone w g) (without w vs)) → Narrow g vs
  first ns e l before rest =
      let now = neighbours_before vs h g inside w m ∙ e in next {g = g} w m (omega (arith, ap length now)) (rest (before now))

  was : {u v : ℕ} → Memᴰ u (without w vs) → Memᴰ v (without w vs) → u ≢ v
      → g u v ≡ gone w g u v → h u v ≡ k u v → gone w g u v ≡ k u v
  was {u} {v} mu mv d p q = sym p ∙ inside u v (without_in w vs mu).0 (without_in w vs mv).0 d ∙ q

-- What is built is narrow: the terminals go in the opposite order.
built_narrow : {h : Graph} {vs : List ℕ} → Built h vs → (g : Graph) → Symmetric g → AsBefore vs h g → Narrow g vs
built_narrow nothing g s inside = done
built_narrow {h} {vs} (alone {h = k} w m before e same) g s inside =
    first g inside w m k [] e (omega arith)
    (λ q u v mu mv d. was g inside w m k mu mv d (gone_none g s vs w q u v mu mv d) (same u v mu mv d))
    (built_narrow before (gone w g) (symmetric_gone w g s))
built_narrow {h} {vs} (branch {h = k} w a m before e same) g s inside =
    first g inside w m k (a ∷ []) e (omega arith)
    (λ q u v mu mv d. was g inside w m k mu mv d (gone_one g s vs w a q u v mu mv d) (same u v mu mv d))
    (built_narrow before (gone w g) (symmetric_gone w g s))
built_narrow {h} {vs} (across {h = k} w a b m before e linked same) g s inside =
    first g inside w m k (a ∷ b ∷ []) e (omega arith)
    (λ q. but_none (without w vs) k (gone w g) a b
    (λ u v mu mv d i j. was g inside w m k mu mv d (gone_two g s vs w a b q u v mu mv d i j) (same u v mu mv d i j))
    linked (gone_linked g s vs w a b q))
    (built_narrow before (gone w g) (symmetric_gone w g s))

-- In a built network rule M takes no vertex with more than two neighbours.
pub built_few : (n : ℕ) (g : Graph) → Symmetric g → Built g (vertices n) → Few g (vertices n) (order n g)
built_few n g s b = narrow_few n g (vertices n) s (up_to_ascending n 0) (built_narrow b g s (λ u v mu mv d. refl))

-- A pivot with at most two neighbours asks for at most 12.
few_work : (g : Graph) (vs ps : List ℕ) → Ascending vs → Few g vs ps → work (plan g vs ps) ≤ 12 * length ps
unfolding work plan
few_work g vs [] up few = omega arith
few_work g vs (p ∷ ps) up few =
    let here : degree g vs p ≤ 2 = few (record { vertex = p; degree = degree g vs p }) (Memᴰ.head refl) in
    let rest = few_work (gone p g) (without p vs) ps (ascending_keep (λ v. not (eqb p v)) vs up) (λ s m. few s (Memᴰ.tail m)) in
    omega (arith, plan_work g vs p ps, pivot_most_lem g (neighbours g vs p) (ascending_keep (beside g p) vs up), mul-le-mul here here)

-- In a built network rule M's work is at most 12 for each vertex.
pub built_work : (n : ℕ) (g : Graph) → Symmetric g → Built g (vertices n) → work_of n g ≤ 12 * n
built_work n g s b = omega (arith, few_work g (vertices n) (order n g) (up_to_ascending n 0) (built_few n g s b), order_length n g)

-- A network is built where some order takes all its vertices, none with more than two neighbours (000, Theorem 5).
pub few_built : (g : Graph) → Symmetric g → (vs ps : List ℕ) → TakesAll vs ps → Few g vs ps → Built g vs
few_built g s vs ps t few = narrow_built s (few_narrow g t few)

-- Rule M tells which networks are built.
pub built_iff : (n : ℕ) (g : Graph) → Symmetric g → Built g (vertices n) ↔ Few g (vertices n) (order n g)
built_iff n g s = (built_few n g s, few_built g s (vertices n) (order n g) (order_takes n g))
