-- At each return, the law of that way out.
use Rattle.std.proofs.Common.{rules}
use Rattle.rows.specs.Connect.{connects_loop, connects_first, connects_later}
use Rattle.rows.proofs.connect.Goals as goal

pub returns-then-w : goal.returns-then-w
returns-then-w c = search (connects_loop, rules)

pub returns-then-before : goal.returns-then-before
returns-then-before c = search (connects_later, rules)

pub returns-else-before : goal.returns-else-before
returns-else-before c = search (connects_first, rules)
