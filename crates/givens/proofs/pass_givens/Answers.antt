-- The laws of `PassingIn`.
use Rattle.std.proofs.Common.{rules}
use Rattle.givens.specs.Passing.{passing_in_none, passing_translatable, passing_in_more, passing_in_all}
use Rattle.givens.proofs.pass_givens.Goals as goal

pub loop-k-init : goal.loop-k-init
loop-k-init c = search (passing_in_none, rules)

pub pass_one-made-requires-clause-translatable : goal.pass_one-made-requires-clause-translatable
pass_one-made-requires-clause-translatable c = search (passing_translatable, rules)

pub loop-k-preserved : goal.loop-k-preserved
loop-k-preserved c = search (passing_in_more, rules)

pub returns-clause-passed_in : goal.returns-clause-passed_in
returns-clause-passed_in c = search (passing_in_all, rules)
