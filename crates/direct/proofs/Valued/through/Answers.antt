-- `direct::Valued::through` meets its contract: both directions.
use Rattle.direct.specs.Marks.{travelled}
use borrow.Author.Rules.{rules}
use Rattle.direct.proofs.Valued.through.Goals as goal

pub returns : goal.returns
returns c = search (travelled, rules)
