-- How many pivots are left.
use Rattle.std.proofs.Common.{◌-◌}
use Rattle.solve.proofs.+eliminate_from.Given as goal

abbrev pub decreases-eliminate_from : goal.decreases-eliminate_from
decreases-eliminate_from l = l.n - l.k
