-- Bounds on joins and work, by the limits and in this edition.
use Rattle.std.specs.Prelude.{◌≡◌, List, ℕ, ◌≤◌, length}
use Rattle.std.proofs.Common.{arith}
use Rattle.costs.specs.Bounds.{joins_most, work_cubic}
use Rattle.links.specs.Switches.{links_of}
use Rattle.network.specs.Network.{edition, network_of}
use Rattle.network.specs.Layout.{Layout, Within}
use Rattle.network.specs.Lists.{starts_length, switches_length}
use Rattle.network.specs.declared.Limits.{Limits}
use Rattle.network.specs.declared.Sections.{Sections}
use Rattle.plan.specs.declared.Plan.{Plan}
use Rattle.plan.specs.Plans.{plan_for, plan_in}
use Rattle.plan.specs.Measure.{Bounded}

-- The plan of an accepted file is bounded by the limits.
pub plan_bounded : (limits : Limits) (s : List ℕ) (parts : Sections) → Layout s parts → Within limits parts → (found : Plan)
    → found ≡ plan_in (network_of s) → Bounded limits found.joins found.work
unfolding plan_in plan_for
plan_bounded limits s parts layout within found e =
    let net = network_of s in
    rw e
    (record {
      joins = joins_most net.switches limits.switches (omega (arith, switches_length layout, within.switches));
      work = work_cubic (length net.starts) limits.vertices (omega (arith, starts_length layout, within.vertices)) (links_of net.switches);
    })

-- In this edition joins are at most 798 and the work is at most 9,200.
pub edition_most : (s : List ℕ) (parts : Sections) → Layout s parts → Within edition parts → (found : Plan) → found ≡ plan_in (network_of s)
    → (found.joins ≤ 798) × (found.work ≤ 9200)
edition_most s parts layout within found e =
    let b = plan_bounded edition s parts layout within found e in
    (omega (arith, b.joins), omega (arith, b.work))
