-- The entries that are left give the verdict on all.
use Rattle.std.proofs.Common.{◌≡◌, ◌+◌, ◌*◌, arith}
use Rattle.reader.specs.Callers.{passed_on}
use Rattle.reader.proofs.Reading.{none, stop_cut, stop_wrong, go_on, done}
use Rattle.reader.proofs.entries_test.Goals as goal

pub loop-k-init : goal.loop-k-init
loop-k-init g c =
    let e : c.args.at + c.args.size * 0 ≡ c.args.at = omega arith in
    rw e (none _ _ _ _ _ (omega arith) (omega arith))

pub returns-then-s-place : goal.returns-then-s-place
returns-then-s-place g c = stop_cut _ _ _ _ _ _ _ c.loop-k.invariant (omega arith) (omega arith)

pub returns-in_err-test : goal.returns-in_err-test
returns-in_err-test g c =
    rw (passed_on c.from_residual.result _ c.from_residual.ensures.1)
    (stop_wrong _ _ _ _ _ _ _ c.loop-k.invariant (omega arith) (omega arith) (omega arith) _ c.in_err-test.ensures)

pub loop-k-preserved : goal.loop-k-preserved
loop-k-preserved g c =
    let e : c.args.at + c.args.size * (c.loop-k.k + 1) ≡ c.args.at + c.args.size * c.loop-k.k + c.args.size = omega arith in
    rw e (go_on _ _ _ _ _ _ _ c.loop-k.invariant (omega arith) (omega arith) (omega arith) _ c.in_ok-test.ensures)

pub returns : goal.returns
returns g c = done _ _ _ _ _ _ _ c.loop-k.invariant (omega arith)
