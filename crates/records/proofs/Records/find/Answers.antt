-- The laws of the search; two records are compared field by field.
use Rattle.std.proofs.Common.{rules, refl, ◌∙◌}
use Rattle.records.specs.Found.{searched_none, searched_hit, searched_more, searched_all, second_differs}
use Rattle.records.proofs.Entering.{is_same}
use Rattle.records.proofs.Records.find.Goals as goal
use Rattle.records.proofs.Records.find.Goals.{else-here-x-via-then-here-x+else-eq, else-here-x-via-else-here-x}

pub loop-k-init : goal.loop-k-init
loop-k-init c = search (searched_none, rules)

pub returns-then-eq : goal.returns-then-eq
returns-then-eq c = search (searched_hit, is_same, rules)

pub loop-k-preserved : goal.loop-k-preserved
loop-k-preserved c =
    let more = searched_more _ _ _ _ _ c.loop-k.invariant _ c.loop-k-test.true c.read_record-here.result c.read_record-here.ensures in
    elim c.else-here-x.branch [
      | else-here-x-via-then-here-x+else-eq w ↦ more _ (w.eq.ensures ∙ is_same c.read_record-here.result c.args.x) w.if-eq.false
      | else-here-x-via-else-here-x w ↦ more _ (second_differs c.read_record-here.result c.args.x w.if-here-x.false) refl
    ]

pub returns : goal.returns
returns c = search (searched_all, rules)
