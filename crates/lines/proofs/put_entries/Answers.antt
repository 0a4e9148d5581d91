-- `lines::put_entries` meets its contract, by the laws of its loop.
use Rattle.std.proofs.Common.{rules}
use Rattle.lines.specs.Loops.{line_fits, line_more, lines_done}
use Rattle.lines.proofs.put_entries.Goals as goal

pub put-next-requires : goal.put-next-requires
put-next-requires g c = search (line_fits, rules)

pub loop-k-preserved : goal.loop-k-preserved
loop-k-preserved g c =
    line_more g.E.Entry.line g.E.Entry.read_at g.E.Entry.SIZE _ _ _ _ c.loop-k.invariant _ (search rules) (search rules) c.put-next.ensures

pub returns : goal.returns
returns g c = search (lines_done, rules)
