-- The first k entries are written.
use Rattle.std.proofs.Common.{◌+◌, length}
use Rattle.writer.specs.Entering.{Entering}
use Rattle.writer.proofs.write_entries.Given as goal

abbrev pub invariant-loop-k : goal.invariant-loop-k
invariant-loop-k g l = Entering g.E.Entry.numbers g.E.Entry.SIZE (length l.entries) l.entries (l.at + 2) l.initial.out l.out l.k
