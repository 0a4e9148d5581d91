-- The line of a refusal by 9, or the lines of the result.
use Rattle.std.proofs.Common.{rules}
use Rattle.list.specs.Analysed.{told_short, told_refused, told_whole, told_fits, told_put}
use Rattle.list.proofs.list_accepted.Goals as goal

pub put_refused-requires : goal.put_refused-requires
put_refused-requires c = search (told_short, rules)

pub put_result-requires-clause-whole : goal.put_result-requires-clause-whole
put_result-requires-clause-whole c = search (told_whole, rules)

pub put_result-requires-clause-room : goal.put_result-requires-clause-room
put_result-requires-clause-room c = search (told_fits, rules)

pub returns-in-Err : goal.returns-in-Err
returns-in-Err c = search (told_refused, rules)

pub returns-in-Ok : goal.returns-in-Ok
returns-in-Ok c = search (told_put, rules)
