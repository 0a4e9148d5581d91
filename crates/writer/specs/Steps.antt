-- The steps that a plan lists are the definition's, and fit into 16 bits.
use Rattle.std.specs.Prelude.{◌≡◌, not, ℕ, zero, suc, ◌<◌, ◌≤◌, eqb}
use Rattle.std.proofs.Math.Path.{ap, sym}
use Rattle.std.proofs.Common.{◌∙◌, arith}
use mathlib.Core.List.{List, [], ◌∷◌}
use Rattle.std.proofs.Math.ListN.{length, get_or}
use Rattle.std.proofs.Math.Seq.{ext_get_or}
use Rattle.links.specs.Lists.{without, vertices}
use Rattle.links.specs.Links.{Graph, Step, beside, gone, order, steps}
use Rattle.links.specs.ListLaws.{keep_shorter, up_to_length, vertex_at}
use Rattle.links.specs.OrderLaws.{order_length, steps_length}
use Rattle.links.specs.Switches.{links_of}
use Rattle.network.specs.Layout.{Layout, Within}
use Rattle.network.specs.Lists.{starts_length}
use Rattle.network.specs.Network.{Network, edition, network_of}
use Rattle.network.specs.declared.Sections.{Sections}
use Rattle.plan.specs.declared.Plan.{Plan}
use Rattle.plan.specs.Plans.{degrees_of, plan_in}
use Rattle.plan.proofs.Measure.{edition_most}
use Rattle.plan.specs.PlanLaws.{taken_at, degree_at, order_inside}
use Rattle.writer.specs.Last.{step_of, step_at, steps_in, Fits}
use Rattle.writer.specs.Lengths.{steps_long}

-- No degree is above the number of vertices.
degrees_most : (g : Graph) (vs ps : List ℕ) (k : ℕ) → get_or (degrees_of (steps g vs ps)) k 0 ≤ length vs
degrees_most g vs [] k = omega arith
degrees_most g vs (p ∷ ps) zero = keep_shorter (beside g p) vs
degrees_most g vs (p ∷ ps) (suc k) =
    omega (arith, degrees_most (gone p g) (without p vs) ps k, keep_shorter (λ v. not (eqb p v)) vs)

module _ (net : Network) (found : Plan) (e : found ≡ plan_in net) where
  -- The definition's own steps: each of them, and how many they are.
  own : List Step
  own = steps (links_of net.switches) (vertices (length net.starts)) (order (length net.starts) (links_of net.switches))

  own_at : (k : ℕ) → k < length net.starts → step_at found k ≡ get_or own k (record { vertex = 0; degree = 0 })
  unfolding own
  own_at k h = ap step_of (taken_at net found e k h)

  own_long : length own ≡ length net.starts
  unfolding own
  own_long =
      let n = length net.starts in
      let g = links_of net.switches in
      steps_length g (vertices n) (order n g) ∙ order_length n g

  -- The plan lists just these.
  pub steps_are : steps_in found (length net.starts)
      ≡ steps (links_of net.switches) (vertices (length net.starts)) (order (length net.starts) (links_of net.switches))
  unfolding own steps_in
  steps_are =
      let n = length net.starts in
      let none : Step = record { vertex = 0; degree = 0 } in
      ext_get_or none (steps_in found n) own (steps_long found n ∙ sym own_long)
      (λ k h. let l : k < n = omega (arith, steps_long found n) in vertex_at (step_at found) n k none l ∙ own_at k l)

-- What `finish` asks of a plan.
pub plan_fits : (s : List ℕ) (parts : Sections) → Layout s parts → Within edition parts → (found : Plan) → found ≡ plan_in (network_of s)
    → Fits found parts.vertices
plan_fits s parts layout within found e =
    let net = network_of s in
    let n = length net.starts in
    let g = links_of net.switches in
    let l = starts_length layout in
    let few = edition_most s parts layout within found e in
    record {
      vertex = λ k h. omega (arith, order_inside net found e k (omega arith), within.vertices);
      degree = λ k h. omega (arith, degree_at net found e k (omega arith), degrees_most g (vertices n) (order n g) k, up_to_length n 0, within.vertices);
      joins = omega (arith, few.0);
      work = omega (arith, few.1);
    }
