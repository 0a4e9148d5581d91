-- `lines::kind_text` meets its contract: each kind has its text.
use Rattle.std.proofs.Common.{rules}
use Rattle.lines.specs.Putting.{and_text, or_text, not_text}
use Rattle.lines.proofs.kind_text.Goals as goal

pub returns-in-1 : goal.returns-in-1
returns-in-1 c = search (and_text, rules)

pub returns-in-2 : goal.returns-in-2
returns-in-2 c = search (or_text, rules)

pub returns-in_default : goal.returns-in_default
returns-in_default c = search (not_text, rules)
