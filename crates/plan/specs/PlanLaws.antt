-- What a caller that goes through a plan needs: its order, the vertex and the degree of each step, and that each is a vertex.
use Rattle.std.specs.Prelude.{◌≡◌, refl, List, [], ◌∷◌, map, ℕ, zero, suc, ◌-◌, ◌<◌, get_or, replicate}
use Rattle.std.proofs.Common.{ap, sym, ◌∙◌, arith}
use Rattle.std.proofs.Math.ListN.{length, get_or-append, get_or-map}
use Rattle.std.proofs.lemmas.List.{length-map, map-append}
use Rattle.links.specs.Lists.{without, vertices}
use Rattle.links.specs.Links.{Graph, Step, gone, order, steps}
use Rattle.links.specs.ListLaws.{get_or_in}
use Rattle.links.specs.OrderLaws.{order_length, order_in, steps_length}
use Rattle.links.specs.Switches.{links_of}
use Rattle.network.specs.Network.{Network, side}
use Rattle.plan.specs.declared.Plan.{Plan}
use Rattle.plan.specs.declared.Taken.{Taken}
use Rattle.plan.specs.Plans.{padded, taken_of, none_taken, degrees_of, plan_for, plan_in, order_of_plan}

-- Before the zeros stands what was padded.
padded_at : {A : Type 0} (none : A) (xs : List A) (k : ℕ) → k < length xs → get_or (padded none xs) k none ≡ get_or xs k none
unfolding padded
padded_at none xs k h = get_or-append xs (replicate (side - length xs) none) none k h

-- The vertices of the steps that the code holds are the order,
vertices_taken : (g : Graph) (vs ps : List ℕ) → map (λ t. t.vertex) (map taken_of (steps g vs ps)) ≡ ps
vertices_taken g vs [] = refl
vertices_taken g vs (p ∷ ps) = ap (λ (qs : List ℕ). p ∷ qs) (vertices_taken (gone p g) (without p vs) ps)

-- with zeros beyond them.
zeros_taken : (n : ℕ) → map (λ t. t.vertex) (replicate n none_taken) ≡ replicate n 0
zeros_taken zero = refl
zeros_taken (suc n) = ap (λ (qs : List ℕ). 0 ∷ qs) (zeros_taken n)

padded_vertices : (xs : List Taken) → map (λ t. t.vertex) (padded none_taken xs) ≡ padded 0 (map (λ t. t.vertex) xs)
unfolding padded
padded_vertices xs =
    let vertex : Taken → ℕ = λ t. t.vertex in
    rw (length-map xs vertex, ← zeros_taken (side - length xs)) (map-append vertex xs (replicate (side - length xs) none_taken))

module _ (net : Network) (found : Plan) (e : found ≡ plan_in net) where
  -- The definition's own steps.
  own : List Step
  own = steps (links_of net.switches) (vertices (length net.starts)) (order (length net.starts) (links_of net.switches))

  own_long : length own ≡ length net.starts
  unfolding own
  own_long =
      let n = length net.starts in
      let g = links_of net.switches in
      steps_length g (vertices n) (order n g) ∙ order_length n g

  -- The order that the plan lists is the definition's.
  pub order_is : order_of_plan found ≡ padded 0 (order (length net.starts) (links_of net.switches))
  unfolding plan_in plan_for
  order_is =
      let n = length net.starts in
      let g = links_of net.switches in
      rw e
      (padded_vertices (map taken_of (steps g (vertices n) (order n g)))
      ∙ ap (λ (qs : List ℕ). padded 0 qs) (vertices_taken g (vertices n) (order n g)))

  module _ (k : ℕ) (h : k < length net.starts) where
    -- Step k is the definition's.
    pub taken_at : get_or found.steps k none_taken
        ≡ taken_of (get_or (steps (links_of net.switches) (vertices (length net.starts))
        (order (length net.starts) (links_of net.switches))) k (record { vertex = 0; degree = 0 }))
    unfolding plan_in plan_for own
    taken_at =
        let none : Step = record { vertex = 0; degree = 0 } in
        rw e
        (padded_at none_taken (map taken_of own) k (omega (arith, length-map own taken_of, own_long))
        ∙ get_or-map taken_of own k none)

    pub order_at_lem : (get_or found.steps k none_taken).vertex ≡ get_or (order (length net.starts) (links_of net.switches)) k 0
    order_at_lem =
        let n = length net.starts in
        let g = links_of net.switches in
        sym (get_or-map (λ (t : Taken). t.vertex) found.steps k none_taken) ∙ ap (λ (qs : List ℕ). get_or qs k 0) order_is
        ∙ padded_at 0 (order n g) k (omega (arith, order_length n g))

    pub degree_at : (get_or found.steps k none_taken).degree
        ≡ get_or (degrees_of (steps (links_of net.switches) (vertices (length net.starts))
        (order (length net.starts) (links_of net.switches)))) k 0
    unfolding own
    degree_at =
        let none : Step = record { vertex = 0; degree = 0 } in
        ap (λ (t : Taken). t.degree) taken_at ∙ sym (get_or-map (λ (s : Step). s.degree) own k none)

    pub order_inside : (get_or found.steps k none_taken).vertex < length net.starts
    order_inside =
        let n = length net.starts in
        let g = links_of net.switches in
        rw order_at_lem (order_in n g (get_or_in (order n g) k 0 (omega (arith, order_length n g))))
