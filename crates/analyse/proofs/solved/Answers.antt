-- The sheet is wired, and then its plan carried out.
use Rattle.analyse.specs.Solved.{wiring_table, plan_able, plan_level, plan_carried}
use Rattle.analyse.proofs.solved.Goals as goal

pub wire_sheet-requires-clause-table : goal.wire_sheet-requires-clause-table
wire_sheet-requires-clause-table c =
    wiring_table _ _ (record { layout = c.args.net.now.layout; within = c.requires.within }) _ c.requires.found_value _ _ c.requires.table

pub eliminate_from-requires-clause-able : goal.eliminate_from-requires-clause-able
eliminate_from-requires-clause-able c =
    plan_able _ _ (record { layout = c.args.net.now.layout; within = c.requires.within }) _ c.requires.found_value _ c.args.sheet.now c.requires.blank.records
    c.requires.table _ _ _ c.wire_sheet.ensures.wired_in c.wire_sheet.ensures.noted c.wire_sheet.ensures.base c.wire_sheet.ensures.variables
    _ c.order-order.ensures _ c.all-rest.ensures

pub eliminate_from-requires-clause-level : goal.eliminate_from-requires-clause-level
eliminate_from-requires-clause-level c =
    plan_level _ _ (record { layout = c.args.net.now.layout; within = c.requires.within }) _ c.requires.found_value _ _ c.requires.table
    _ _ _ _ c.wire_sheet.ensures.wired_in _ c.order-order.ensures

pub returns : goal.returns
returns c =
    plan_carried _ _ (record { layout = c.args.net.now.layout; within = c.requires.within }) _ c.requires.found_value _ c.args.sheet.now c.requires.blank.records
    c.requires.table _ _ _ c.wire_sheet.ensures.wired_in c.wire_sheet.ensures.noted c.wire_sheet.ensures.base c.wire_sheet.ensures.variables
    _ c.order-order.ensures _ c.all-rest.ensures _ _ c.eliminate_from.ensures.carried
