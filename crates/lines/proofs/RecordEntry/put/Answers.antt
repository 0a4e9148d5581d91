-- A record's line is its reference, kind, arguments, and the ending.
use Rattle.std.proofs.Common.{rules}
use Rattle.lines.specs.Putting.{record_line_parts}
use Rattle.text.specs.Putting.{puts_as, puts_both}
use Rattle.lines.proofs.RecordEntry.put.Goals as goal

pub returns : goal.returns
returns c =
    let e = record_line_parts c.args.number c.args.self c.kind_text.result.now c.from.result (search rules) (search rules) in
    puts_as _ _ e _ _ _ _ (search (puts_both, rules))
