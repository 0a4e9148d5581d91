-- At each return, the law of that way out.
use Rattle.std.proofs.Common.{None, refl, sym, ◌∙◌, arith}
use Rattle.network.specs.Ranges.{sound}
use Rattle.direct.specs.Promise.{bad_found, direct_length, direct_byte, direct_room, direct_done}
use borrow.Author.Rules.{rules}
use Rattle.direct.proofs.answer.Goals as goal

pub returns-then-setting-net : goal.returns-then-setting-net
returns-then-setting-net c = search (direct_length, rules)

pub returns-in-Some : goal.returns-in-Some
returns-in-Some c =
    let b = bad_found c.args.setting.now _ c.in-Some.ensures in
    direct_byte _ _ _ _ c.requires (omega arith) _ b.1 b.0

pub returns-then-out-net : goal.returns-then-out-net
returns-then-out-net c =
    let b = bad_found c.args.setting.now None (sym c.in_default.is ∙ c.first_bad.ensures) in
    direct_room _ _ _ _ c.requires (omega arith) _ refl (omega arith) (omega arith)

pub solve-requires-clause-within : goal.solve-requires-clause-within
solve-requires-clause-within c = (sound _ _ _ c.requires).within

pub returns : goal.returns
returns c =
    let b = bad_found c.args.setting.now None (sym c.in_default.is ∙ c.first_bad.ensures) in
    direct_done _ _ _ _ c.requires (omega arith) _ refl (omega arith) (omega arith) _ c.solve.ensures
