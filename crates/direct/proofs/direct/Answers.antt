-- The reader's refusal, or the answer for an accepted file.
use Rattle.std.proofs.Common.{rules}
use Rattle.reader.specs.Callers.{passed_on, reads_accepted}
use Rattle.direct.specs.Promise.{direct_unread}
use Rattle.direct.proofs.direct.Goals as goal

pub returns-in_err-parts : goal.returns-in_err-parts
returns-in_err-parts c =
    rw (passed_on c.from_residual.result _ c.from_residual.ensures.1)
    (direct_unread _ _ _ _ _ c.in_err-parts.was c.check_network.ensures.result_value)

pub answer-requires : goal.answer-requires
answer-requires c = search (reads_accepted, rules)
