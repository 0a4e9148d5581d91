-- `list::put_refused` meets its contract.
use Rattle.std.proofs.Common.{rules}
use Rattle.list.specs.Promise.{line_room, line_put}
use Rattle.list.proofs.put_refused.Goals as goal

pub put_pair-requires : goal.put_pair-requires
put_pair-requires c = search (line_room, rules)

pub returns : goal.returns
returns c = search (line_put, rules)
