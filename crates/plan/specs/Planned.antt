-- The whole elimination, step by step: what is left gives the rest of the order, of the degrees and of the work.
use Rattle.std.specs.Prelude.{◌≡◌, length, map, set, replicate}
use Rattle.std.proofs.Math.Path.{ap, sym, subst}
use Rattle.std.proofs.Common.{◌∙◌, add-one}
use mathlib.Core.List.{List, ◌∷◌}
use Prim.Native.Nat.{ℕ, suc, ◌+◌, ◌*◌, ◌-◌, ◌^◌, ◌<◌, ◌≤◌}
use native.Mathlib.Omega.{arith}
use Rattle.std.proofs.Math.Nat.{sub-zero}
use Rattle.elimination.specs.Plan.{plan, work_of}
use Rattle.elimination.specs.WorkLaws.{pivot_work, plan_work}
use Rattle.links.specs.Lists.{without, vertices}
use Rattle.links.specs.Links.{Graph, neighbours, degree, gone, order_of, order, steps}
use Rattle.links.specs.ListLaws.{without_length, up_to_length}
use Rattle.links.specs.OrderLaws.{order_more}
use Rattle.links.specs.Switches.{no_links, links_from, joins_from, links_of, joins_of}
use Rattle.network.specs.Network.{side, network_of}
use Rattle.network.specs.Layout.{Layout}
use Rattle.network.specs.Lists.{starts_length}
use Rattle.network.specs.declared.Sections.{Sections}
use Rattle.rows.specs.Row.{vertices_in, excluding, all_of, all_few, vertices_all, vertices_excluding, vertices_up, excluding_most}
use Rattle.rows.specs.Table.{links_in, near_row, near_are, near_few, none_linked}
use Rattle.rows.specs.Gone.{eliminated, eliminated_long, eliminated_gone}
use Rattle.sheet.specs.Asks.{work}
use Rattle.plan.specs.declared.Plan.{Plan}
use Rattle.plan.specs.declared.Stepped.{Stepped}
use Rattle.plan.specs.declared.Taken.{Taken}
use Rattle.plan.specs.Wire.{Wired}
use Rattle.plan.specs.Plans.{taken_of, none_taken, plan_for, plan_in}
use Rattle.plan.specs.Rows.{Writing, writing_none, writing_more, writing_done}
use Rattle.plan.specs.Scan.{Takes}
use Rattle.plan.specs.Work.{pivot_most}

-- A step of the code.
pub record Steps (links : List ℕ) (rest n : ℕ) (links' : List ℕ) (r : Stepped) : Type 0 where
  pub taken : Takes links rest n r.taken
  pub work : r.work ≡ pivot_work (links_in links) (neighbours (links_in links) (vertices_in n rest) r.taken.vertex)
  pub most : r.work ≤ pivot_most
  pub graph : links_in links' ≡ gone r.taken.vertex (links_in links)
  pub long : length links' ≡ side

-- All are among n vertices,
pub first_below : (n row : ℕ) → row ≡ all_of n → row < 2 ^ n
first_below n row e = rw e (all_few n)

-- the neighbours of a vertex are among them too,
pub near_below : (links : List ℕ) (rest n p near : ℕ) → rest < 2 ^ n → near ≡ near_row links rest p → near < 2 ^ n
near_below links rest n p near few e = rw e (near_few links n rest few p)

-- and so are those that are left without a vertex.
pub excluding_below : (rest n v left : ℕ) → rest < 2 ^ n → left ≡ excluding rest v → left < 2 ^ n
excluding_below rest n v left few e = rw e (omega (arith, excluding_most rest v))

-- What the parts of a step say.
pub steps_are : (links : List ℕ) (rest n : ℕ) → length links ≡ side → (t : Taken) → Takes links rest n t → (near work : ℕ)
    → near ≡ near_row links rest t.vertex → work ≡ pivot_work (links_in links) (vertices_in n near) → work ≤ pivot_most
    → (links' : List ℕ) → links' ≡ eliminated t.vertex links → (r : Stepped)
    → r ≡ record { taken = t; work = work } → Steps links rest n links' r
steps_are links rest n long t takes near work is e most links' after r f =
    rw f
    (record {
      taken = takes;
      work = e ∙ ap (pivot_work (links_in links)) (rw is (near_are links n rest t.vertex));
      most = most;
      graph = rw after (eliminated_gone t.vertex links long);
      long = rw after (eliminated_long t.vertex links);
    })

-- The vertices that are still to be taken, in order.
unfoldable pub order_left : ℕ → List ℕ → ℕ → ℕ → List ℕ
order_left n links rest k = order_of (n - k) (links_in links) (vertices_in n rest)

-- After k steps: what is written, with what is left to do, is the plan.
pub record Planning (g : Graph) (n : ℕ) (links : List ℕ) (rest : ℕ) (taken : List Taken) (sum k : ℕ) : Type 0 where
  pub within : k ≤ n
  pub count : length (vertices_in n rest) ≡ n - k
  pub listed :
      Writing none_taken (map taken_of (steps g (vertices n) (order n g)))
      (map taken_of (steps (links_in links) (vertices_in n rest) (order_left n links rest k))) taken k
  pub worked : sum + work (plan (links_in links) (vertices_in n rest) (order_left n links rest k)) ≡ work_of n g
  pub most : sum ≤ pivot_most * k
  pub long : length links ≡ side
  pub few : rest < 2 ^ n

module _ (n : ℕ) (few : n ≤ side) where
  pub planning_none : (links : List ℕ) (rest : ℕ) (taken : List Taken) → length links ≡ side → rest ≡ all_of n
      → taken ≡ replicate side none_taken → Planning (links_in links) n links rest taken 0 0
  unfolding order_left
  planning_none links rest taken l e o =
      let g = links_in links in
      let all : vertices_in n rest ≡ vertices n = rw e (vertices_all n) in
      record {
        within = omega arith;
        count = rw (all, sub-zero) (up_to_length n 0);
        listed = rw (all, sub-zero) (writing_none none_taken (map taken_of (steps g (vertices n) (order n g))) taken o);
        worked = rw (all, sub-zero) (omega arith);
        most = omega arith;
        long = l;
        few = first_below n rest e;
      }

  module _ (g : Graph) (links : List ℕ) (rest : ℕ) (taken : List Taken) (sum k : ℕ) (inv : Planning g n links rest taken sum k) where
    pub planning_some : k < n → 0 < length (vertices_in n rest)
    planning_some h = omega (arith, inv.count)

    next : k < n → (links' : List ℕ) (t : Stepped) → Steps links rest n links' t → (rest' : ℕ) → rest' ≡ excluding rest t.taken.vertex
        → Planning g n links' rest' (set taken k t.taken) (sum + t.work) (suc k)
    unfolding order_left
    next h links' t step rest' left =
        let p = t.taken.vertex in
        let g' = links_in links in
        let vs = vertices_in n rest in
        let ps = order_of (n - suc k) (gone p g') (without p vs) in
        let more : n - k ≡ suc (n - suc k) = omega arith in
        let now : order_of (n - k) g' vs ≡ p ∷ ps
        = ap (λ (i : ℕ). order_of i g' vs) more ∙ order_more (n - suc k) g' vs p step.taken.vertex (planning_some h) in
        let less : vertices_in n rest' ≡ without p vs = rw left (vertices_excluding n rest p) in
        let short = without_length p vs (vertices_up n rest) step.taken.present in
        let held : record { vertex = p; degree = degree g' vs p } ≡ t.taken = λ i. record { vertex = p; degree = sym step.taken.degree i } in
        let later = map taken_of (steps (gone p g') (without p vs) ps) in
        record {
          within = omega arith;
          count = rw less (omega (arith, inv.count));
          listed = rw (less, step.graph)
              (subst (λ (x : Taken). Writing none_taken (map taken_of (steps g (vertices n) (order n g))) later (set taken k x) (suc k)) held
              (writing_more none_taken (map taken_of (steps g (vertices n) (order n g))) later taken k
              (record { vertex = p; degree = degree g' vs p }) (rw now at inv.listed) (omega arith)));
          worked = rw (less, step.graph, step.work) (omega (arith, plan_work g' vs p ps, rw now at inv.worked));
          most = omega (arith, inv.most, step.most);
          long = step.long;
          few = excluding_below rest n p rest' inv.few left;
        }

    pub planning_more : k < n → (links' : List ℕ) (t : Stepped) → Steps links rest n links' t → (rest' : ℕ)
        → rest' ≡ excluding rest t.taken.vertex → Planning g n links' rest' (set taken k t.taken) (sum + t.work) (k + 1)
    planning_more h links' t step rest' left = rw add-one (next h links' t step rest' left)

-- The plan of n vertices with these links.
pub planned : (g : Graph) (n : ℕ) → n ≤ side → (links : List ℕ) (rest : ℕ) (taken : List Taken) (sum k joins : ℕ)
    → Planning g n links rest taken sum k → n ≤ k → (r : Plan)
    → r ≡ record { steps = taken; work = sum; joins = joins } → r ≡ plan_for n g joins
unfolding plan_for order_left plan work
planned g n few links rest taken sum k joins inv h r e =
    let z : n - k ≡ 0 = omega arith in
    let m : k ≤ side = omega (arith, inv.within) in
    let o = writing_done none_taken (map taken_of (steps g (vertices n) (order n g))) taken k (rw z at inv.listed) m in
    let w : sum ≡ work_of n g = omega (arith, rw z at inv.worked) in
    e ∙ rw (o, w)

-- The plan of an accepted file, by what `plan_of` knows.
module _ (s : List ℕ) (parts : Sections) (layout : Layout s parts) (start links : List ℕ) (e : start ≡ replicate side 0)
    (joins : ℕ) (w : Wired (network_of s).switches start links joins) (r : Plan) (p : r ≡ plan_for parts.vertices (links_in links) joins) where
  pub plan_made : r ≡ plan_in (network_of s)
  unfolding plan_in links_of joins_of
  plan_made =
      let z : links_in start ≡ no_links = rw e none_linked in
      let g = w.graph ∙ ap (λ (x : Graph). links_from x (network_of s).switches) z in
      let j = w.joins ∙ ap (λ (x : Graph). joins_from x (network_of s).switches) z in
      rw (starts_length layout, ← g, ← j) p
