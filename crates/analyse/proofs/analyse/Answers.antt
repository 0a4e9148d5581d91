-- Refused by the reader, or analysed.
use Rattle.std.proofs.Common.{rules}
use Rattle.reader.specs.Callers.{passed_on, reads_accepted, reads_sound}
use Rattle.analyse.specs.Promise.{analyse_unread}
use Rattle.analyse.proofs.analyse.Goals as goal

pub returns-in_err-parts : goal.returns-in_err-parts
returns-in_err-parts c =
    rw (passed_on c.from_residual.result _ c.from_residual.ensures.1)
    (analyse_unread _ _ _ _ c.in_err-parts.was c.check_network.ensures.result_value)

pub answer-requires : goal.answer-requires
answer-requires c =
    let sound = reads_sound _ _ _ c.in_ok-parts.was c.check_network.ensures.result_value in
    record { parts_value = search (reads_accepted, rules); within = sound.within }
