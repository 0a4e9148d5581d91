-- `lines::put_second` meets its contract: not has no second argument.
use Rattle.std.proofs.Common.{rules}
use Rattle.lines.specs.Putting.{second_none, second_room, second_field}
use Rattle.text.specs.Putting.{puts_as}
use Rattle.lines.proofs.put_second.Goals as goal

pub returns-then-r-eq-NOT : goal.returns-then-r-eq-NOT
returns-then-r-eq-NOT c = search second_none

pub put_field-requires : goal.put_field-requires
put_field-requires c = search (second_room, rules)

pub returns : goal.returns
returns c = search (puts_as, second_field, rules)
