-- The laws of a level: no pivot is left, or one is passed, the others are eliminated and answered, and then it is answered.
use Rattle.std.proofs.Common.{rules}
use Rattle.solve.specs.Levels.{level_none, level_same, level_falls, level_next, level_after, level_first, level_ready, level_last, level_done}
use Rattle.solve.proofs.+eliminate_from.Goals as goal

pub returns-then-k-n-clause-carried : goal.returns-then-k-n-clause-carried
returns-then-k-n-clause-carried t c = search (level_none, rules)

pub returns-then-k-n-clause-links_value : goal.returns-then-k-n-clause-links_value
returns-then-k-n-clause-links_value t c = search (level_same, rules)

pub forward-requires : goal.forward-requires
forward-requires t c = search (level_first, rules)

pub eliminate_from-requires : goal.eliminate_from-requires
eliminate_from-requires t c = (search (level_falls, rules), (search (level_ready, rules), search (level_next, rules)))

pub backward-requires : goal.backward-requires
backward-requires t c = search (level_last, rules)

pub returns-clause-carried : goal.returns-clause-carried
returns-clause-carried t c = search (level_done, rules)

pub returns-clause-links_value : goal.returns-clause-links_value
returns-clause-links_value t c = search (level_after, rules)
