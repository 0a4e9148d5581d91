-- `text::put_field` meets its contract: two parts.
use Rattle.text.specs.Putting.{puts_both}
use Rattle.text.proofs.put_field.Goals as goal

pub returns-clause-puts : goal.returns-clause-puts
returns-clause-puts c = search puts_both
