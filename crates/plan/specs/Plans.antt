-- The plan of a network, as the code hands it over.
use Rattle.std.specs.Prelude.{List, ◌++◌, map, ℕ, ◌-◌, length, replicate}
use Rattle.elimination.specs.Plan.{work_of}
use Rattle.links.specs.Lists.{vertices}
use Rattle.links.specs.Links.{Graph, Step, order, steps}
use Rattle.links.specs.Switches.{links_of, joins_of}
use Rattle.network.specs.Network.{Network, side}
use Rattle.plan.specs.declared.Plan.{Plan}
use Rattle.plan.specs.declared.Taken.{Taken}

-- A list filled up with the same beyond the last vertex.
unfoldable pub padded : {A : Type 0} → A → List A → List A
padded none xs = xs ++ replicate (side - length xs) none

-- A step as the code holds it,
abbrev pub taken_of : Step → Taken
taken_of s = record { vertex = s.vertex; degree = s.degree }

-- and what is held beyond the last one.
abbrev pub none_taken : Taken
none_taken = record { vertex = 0; degree = 0 }

-- The degrees of an elimination's steps.
abbrev pub degrees_of : List Step → List ℕ
degrees_of = map (λ s. s.degree)

-- The plan of n vertices with these links, after these joins.
unfoldable pub plan_for : ℕ → Graph → ℕ → Plan
plan_for n g joins =
    record {
      steps = padded none_taken (map taken_of (steps g (vertices n) (order n g)));
      work = work_of n g;
      joins = joins;
    }

-- The plan of a network.
unfoldable pub plan_in : Network → Plan
plan_in net = plan_for (length net.starts) (links_of net.switches) (joins_of net.switches)

-- The order that a plan lists, with zeros beyond the last vertex.
abbrev pub order_of_plan : Plan → List ℕ
order_of_plan found = map (λ t. t.vertex) found.steps
