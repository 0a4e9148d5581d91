-- At each return, the law of that way out.
use Rattle.std.proofs.Common.{rules}
use Rattle.analyse.specs.Promise.{analyse_room, analyse_able, analyse_done}
use Rattle.analyse.proofs.answer.Goals as goal

pub returns-then-out-room : goal.returns-then-out-room
returns-then-out-room c = search (analyse_room, rules)

pub fill-length-requires : goal.fill-length-requires
fill-length-requires c = search (analyse_able, rules)

pub returns : goal.returns
returns c = search (analyse_done, rules)
