-- The variables, the records, and what comes after them.
use Rattle.std.proofs.Common.{arith}
use Rattle.analyse.specs.Filled.{fill_table, fill_count, fill_room, fill_fits, filled}
use Rattle.analyse.proofs.fill.Goals as goal

pub solved-requires-clause-table : goal.solved-requires-clause-table
solved-requires-clause-table c = rw c.empty-sheet.ensures.base (fill_table _ _ _ _ c.requires _ c.write_variables.ensures)

pub finish-requires-clause-fits : goal.finish-requires-clause-fits
finish-requires-clause-fits c = fill_fits _ _ _ _ c.requires

pub finish-requires-clause-count_bound : goal.finish-requires-clause-count_bound
finish-requires-clause-count_bound c =
    let solved = rw c.empty-sheet.ensures.base at c.solved.ensures in
    let count = fill_count _ _ _ _ c.requires _ c.write_variables.ensures _ _ _ solved in
    let room = fill_room _ _ _ _ c.requires _ c.write_variables.ensures _ _ _ solved in
    (omega (arith, count), omega (arith, room))

pub returns : goal.returns
returns c =
    let solved = rw c.empty-sheet.ensures.base at c.solved.ensures in
    filled _ _ _ _ c.requires _ c.write_variables.ensures _ _ _ solved _ _ c.finish.ensures
