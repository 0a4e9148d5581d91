-- The count is complete, within its limit, and then the entries give the verdict.
use Rattle.std.proofs.Common.{arith}
use Rattle.reader.specs.Callers.{passed_on}
use Rattle.reader.proofs.Whole.{section_cut, section_over, section_entries}
use Rattle.reader.proofs.read_section.Goals as goal

pub returns-then-s-at-clause-answer : goal.returns-then-s-at-clause-answer
returns-then-s-at-clause-answer g c verdict f = section_cut _ _ _ _ _ (omega arith)

pub returns-then-limit-count-clause-answer : goal.returns-then-limit-count-clause-answer
returns-then-limit-count-clause-answer g c verdict f = section_over _ _ _ _ _ (omega arith) (omega arith)

pub returns-in_err-entries_test-clause-answer : goal.returns-in_err-entries_test-clause-answer
returns-in_err-entries_test-clause-answer g c verdict f =
    rw (passed_on c.from_residual.result _ c.from_residual.ensures.1)
    (section_entries _ _ _ _ _ (omega arith) (omega arith) (omega arith) (c.in_err-entries_test.ensures verdict f))

pub returns-clause-answer : goal.returns-clause-answer
returns-clause-answer g c verdict f = section_entries _ _ _ _ _ (omega arith) (omega arith) (omega arith) (c.in_ok-entries_test.ensures verdict f)
