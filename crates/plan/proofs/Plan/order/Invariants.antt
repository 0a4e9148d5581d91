-- The first k vertices are listed.
use Rattle.std.proofs.Common.{◌≡◌, ◌<◌, ℕ, length, get_or}
use Rattle.network.specs.Network.{side}
use Rattle.plan.specs.Plans.{none_taken}
use Rattle.plan.proofs.Plan.order.Given as goal

abbrev pub invariant-loop-k : goal.invariant-loop-k
invariant-loop-k l = (length l.order ≡ side) × ((i : ℕ) → i < l.k → get_or l.order i 0 ≡ (get_or l.self.steps i none_taken).vertex)
