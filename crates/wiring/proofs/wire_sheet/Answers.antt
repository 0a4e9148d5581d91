-- Given formulas, starts, switches.
use Rattle.wiring.specs.Sheet.{passed_translates, joins_able, wired_in}
use Rattle.wiring.proofs.wire_sheet.Goals as goal

pub wire_switches-requires-clause-translating : goal.wire_switches-requires-clause-translating
wire_switches-requires-clause-translating c =
    rw c.put_starts.ensures.records
    (passed_translates _ _ (record { layout = c.args.net.now.layout; within = c.requires.within }) _ _ _ _ _ c.pass_givens.ensures.passed_in)

pub wire_switches-requires-clause-able : goal.wire_switches-requires-clause-able
wire_switches-requires-clause-able c =
    let same = c.put_starts.ensures.records in
    joins_able _ _ (record { layout = c.args.net.now.layout; within = c.requires.within }) _ _ _ _ _
    (rw (same, c.pass_givens.ensures.variables) c.requires.blank.records.variables) (rw same c.pass_givens.ensures.base)
    (rw same c.pass_givens.ensures.passed_in) c.put_starts.ensures.started c.requires.table (rw same c.pass_givens.ensures.noted)

pub returns-clause-wired_in : goal.returns-clause-wired_in
returns-clause-wired_in c =
    let same = c.put_starts.ensures.records in
    wired_in _ _ (record { layout = c.args.net.now.layout; within = c.requires.within }) _ _ _ _ _
    (rw (same, c.pass_givens.ensures.variables) c.requires.blank.records.variables) (rw same c.pass_givens.ensures.base)
    (rw same c.pass_givens.ensures.passed_in) c.put_starts.ensures.started _ _ _ c.wire_switches.ensures
