-- Each section is after the one before: the answers are the first cells, and the order the first steps of the plan.
use Rattle.std.proofs.Common.{◌≡◌, take, map, arith}
use Rattle.analysis.specs.Result.{section, step_entry}
use Rattle.sheet.specs.Cells.{cells_in}
use Rattle.writer.specs.Last.{answers_in, steps_in, step_of, taken_entry}
use Rattle.writer.specs.Entering.{answers_first, steps_first, taken_section, finished}
use Rattle.writer.proofs.finish.Goals as goal

pub returns : goal.returns
returns c =
    let n = c.args.parts.vertices in
    let a : answers_in (cells_in c.args.cells.now) n ≡ take n c.args.cells.now = answers_first _ _ (omega arith) (omega arith) in
    let b : steps_in c.args.found n ≡ map step_of (take n c.args.found.steps) = steps_first _ _ (omega arith) in
    let e : section taken_entry (take n c.args.found.steps) ≡ section step_entry (steps_in c.args.found n) = rw b (taken_section _) in
    finished _ _ _ _ _ _ _ _ _ c.put_number.ensures (rw (← a) at c.write_entries.ensures) (rw e at c.write_entries-2.ensures) c.write_figures.ensures
