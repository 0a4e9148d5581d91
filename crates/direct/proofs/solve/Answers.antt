-- `direct::solve` meets its contract: what each part ensures, put together.
use Rattle.std.proofs.Common.{arith}
use Rattle.direct.specs.Solve.{written_first, solved}
use borrow.Author.Rules.{rules}
use Rattle.direct.proofs.solve.Goals as goal

pub returns : goal.returns
returns c = let w = written_first _ _ _ _ (omega arith) c.write.ensures in search (solved, rules)
