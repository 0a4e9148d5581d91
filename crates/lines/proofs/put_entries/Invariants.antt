-- The lines from entry k on are left.
use Rattle.std.proofs.Common.{◌+◌, drop}
use Rattle.network.specs.Network.{section_of}
use Rattle.text.specs.Putting.{Rest}
use Rattle.lines.specs.Lines.{lines}
use Rattle.lines.proofs.put_entries.Given as goal

abbrev pub invariant-loop-k : goal.invariant-loop-k
invariant-loop-k g l =
    Rest
    (lines g.E.Entry.line l.first (section_of g.E.Entry.read_at g.E.Entry.SIZE l.bytes l.section.place))
    l.at
    l.fn.out
    (lines g.E.Entry.line (l.first + l.k) (drop l.k (section_of g.E.Entry.read_at g.E.Entry.SIZE l.bytes l.section.place)))
    l.next
    l.out
