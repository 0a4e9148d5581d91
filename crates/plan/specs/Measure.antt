-- How many operations a network asks for, the room of its result, and refusal 9.
use Rattle.std.specs.Prelude.{◌≡◌, List, ℕ, ◌+◌, ◌*◌, ◌-◌, ◌≤◌, ltb, length}
use Rattle.elimination.specs.Plan.{work_of}
use Rattle.form.specs.Refusals.{Verdict, fault_if}
use Rattle.links.specs.Switches.{links_of, joins_of}
use Rattle.network.specs.Network.{Network, network_of}
use Rattle.network.specs.Layout.{Layout}
use Rattle.network.specs.Lists.{variables_length, givens_length, starts_length}
use Rattle.network.specs.declared.Limits.{Limits}
use Rattle.network.specs.declared.Sections.{Sections}
use Rattle.plan.specs.declared.Plan.{Plan}
use Rattle.plan.specs.Plans.{plan_for, plan_in}

-- The work of a network,
abbrev pub work_in : Network → ℕ
work_in net = work_of (length net.starts) (links_of net.switches)

-- and joins plus work.
unfoldable pub operations : Network → ℕ
operations net = joins_of net.switches + work_in net

-- Room needed for a result: 16 + 2p + 6(g + joins + work) + 6n bytes, whether or not fewer records are made.
unfoldable pub room_for : Network → ℕ
room_for net = 16 + 2 * length net.variables + 6 * (length net.givens + operations net) + 6 * length net.starts

-- 9: result room too small. Place 0.
unfoldable pub room_fault : Network → ℕ → Verdict
room_fault net room = fault_if (ltb room (room_for net)) 9 0

-- The same by the numbers of a plan: the operations,
abbrev pub operations_of : Plan → ℕ
operations_of found = found.joins + found.work

-- and the room.
abbrev pub room_in : Sections → Plan → ℕ
room_in parts found = 16 + 2 * parts.variables + 6 * (parts.givens + operations_of found) + 6 * parts.vertices

-- How many joins and how much work there are at most, by the limits: two joins for each switch but the first, and a work of 2(n³ − n)/3 at n vertices.
pub record Bounded (limits : Limits) (joins' work' : ℕ) : Type 0 where
  pub joins : joins' ≤ 2 * limits.switches - 2
  pub work : 3 * work' + 2 * limits.vertices ≤ 2 * limits.vertices * limits.vertices * limits.vertices

-- The plan of a network has its operations,
pub operations_are : (net : Network) (found : Plan) → found ≡ plan_in net → operations_of found ≡ operations net
unfolding operations plan_in plan_for
operations_are net found e = rw e

-- and, for an accepted file, tells the room,
pub room_is : (s : List ℕ) (parts : Sections) → Layout s parts → (found : Plan) → found ≡ plan_in (network_of s)
    → room_in parts found ≡ room_for (network_of s)
unfolding room_for
room_is s parts layout found e =
    rw (operations_are (network_of s) found e, ← variables_length layout, ← givens_length layout, ← starts_length layout)
