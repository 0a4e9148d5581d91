-- What the analysis promises tells of the listing.
use Rattle.std.proofs.Common.{rules}
use Rattle.list.specs.Analysed.{analysis_tells}
use Rattle.list.proofs.analysed.Goals as goal

pub returns-clause-tells : goal.returns-clause-tells
returns-clause-tells c = search (analysis_tells, rules)
