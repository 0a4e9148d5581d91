-- What a stored result tells of the elimination (demand 3).
use Rattle.std.specs.Prelude.{◌≡◌, refl, ◌↔◌, ℕ, ◌+◌, ◌*◌, ◌≤◌, length}
use mathlib.Core.List.{Memᴰ}
use Rattle.std.proofs.Common.{arith}
use Rattle.analysis.specs.Result.{Stored, result_in}
use Rattle.costs.specs.Bounds.{work_cubic}
use Rattle.costs.specs.Built.{Built}
use Rattle.costs.specs.Closed.{costs, work_closed}
use Rattle.costs.proofs.SeriesParallel.{built_iff, built_work}
use Rattle.elimination.specs.Plan.{work_of}
use Rattle.formula.specs.MakeLaws.{Orderly}
use Rattle.links.specs.Lists.{vertices}
use Rattle.links.specs.Links.{Graph, Step, order, steps}
use Rattle.links.specs.ListLaws.{up_to_ascending}
use Rattle.links.specs.Switches.{links_of, joins_of}
use Rattle.links.specs.Symmetry.{symmetric_links}
use Rattle.meaning.proofs.Answers.{eliminated_standing}
use Rattle.meaning.specs.Ranged.{Ranged}
use Rattle.network.specs.Network.{Network}
use Rattle.stored.specs.Stored.{givens_figure, joins_figure, work_figure}

-- The vertices of a network, and its bare links.
abbrev pub vertices_of : Network → ℕ
vertices_of net = length net.starts

abbrev pub graph_of : Network → Graph
graph_of net = links_of net.switches

-- The pivots are rule M's; given formulas and joins are the file's. The work is the number of operations that figure 1 asks for on the bare links,
-- the sum of 2d + 2d² − 2f over the pivots, and at most 2(n³ − n)/3, the sum of 2d + 2d² over all d below n. Records never exceed given formulas plus
-- joins plus work, and are in order, each of them needed. No pivot has over two neighbours left exactly when the network is built by adding
-- terminals, and then the work is at most 12 a vertex.
pub record Figures (net : Network) (r : Stored) : Type 0 where
  pub pivots : r.order ≡ steps (graph_of net) (vertices (vertices_of net)) (order (vertices_of net) (graph_of net))
  pub givens : givens_figure r ≡ length net.givens
  pub joins : joins_figure r ≡ joins_of net.switches
  pub work : work_figure r ≡ work_of (vertices_of net) (graph_of net)
  pub cost : work_figure r ≡ costs (graph_of net) (vertices (vertices_of net)) (order (vertices_of net) (graph_of net))
  pub most : 3 * work_figure r + 2 * vertices_of net ≤ 2 * vertices_of net * vertices_of net * vertices_of net
  pub few : length r.records ≤ givens_figure r + joins_figure r + work_figure r
  pub orderly : Orderly (length r.variables) r.records
  pub narrow : Built (graph_of net) (vertices (vertices_of net)) ↔ ((p : Step) → Memᴰ p r.order → p.degree ≤ 2)
  pub twelve : Built (graph_of net) (vertices (vertices_of net)) → work_figure r ≤ 12 * vertices_of net

-- The result of a network in range tells these.
pub result_figures : (net : Network) → Ranged net → Figures net (result_in net)
unfolding result_in
result_figures net ranged =
    let n = vertices_of net in
    let g = graph_of net in
    let symmetric = symmetric_links net.switches in
    record {
      pivots = refl;
      givens = refl;
      joins = refl;
      work = refl;
      cost = work_closed g symmetric (vertices n) (order n g) (up_to_ascending n 0);
      most = work_cubic n n (omega arith) g;
      few = (eliminated_standing net ranged).few;
      orderly = (eliminated_standing net ranged).orderly;
      narrow = built_iff n g symmetric;
      twelve = built_work n g symmetric;
    }
