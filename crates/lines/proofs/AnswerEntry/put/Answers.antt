-- An answer's line is two texts, each before a number.
use Rattle.std.proofs.Common.{rules}
use Rattle.lines.specs.Putting.{vertex_line_lem}
use Rattle.text.specs.Putting.{puts_as, pair_room}
use Rattle.lines.proofs.AnswerEntry.put.Goals as goal

pub put_pair-requires : goal.put_pair-requires
put_pair-requires c = search (pair_room, vertex_line_lem, rules)

pub returns : goal.returns
returns c = search (puts_as, vertex_line_lem, rules)
