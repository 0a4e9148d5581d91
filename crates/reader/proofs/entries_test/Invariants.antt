-- The entries that are left give the verdict on all.
use Rattle.std.proofs.Common.{◌+◌, ◌*◌}
use Rattle.reader.proofs.Reading.{Reading}
use Rattle.reader.proofs.entries_test.Given as goal

abbrev pub invariant-loop-k : goal.invariant-loop-k
invariant-loop-k g l = Reading l.size l.s (goal.F-post g l.test) l.at (l.at + l.size * l.k) l.k l.count
