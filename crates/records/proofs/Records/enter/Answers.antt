-- The record is there, or it is appended and noted.
use Rattle.std.proofs.Common.{refl}
use Rattle.records.specs.Rules.{stored_old}
use Rattle.records.specs.Entered.{made}
use Rattle.records.proofs.Entering.{entered_old, entered_new}
use Rattle.records.proofs.Records.enter.Goals as goal

pub returns-in-Some : goal.returns-in-Some
returns-in-Some c =
    entered_old c.args.self.now _ c.requires.noted _ _
    (stored_old _ _ _ (made c.of.result c.args.self.now) _ _ _ c.in-Some.ensures.0 c.in-Some.ensures.1 c.of.ensures refl)

pub returns : goal.returns
returns c =
    entered_new c.args.self.now _ c.requires _ c.in_default.ensures _ c.put_record.ensures _ c.of-2.ensures _ c.bucket.ensures.0
