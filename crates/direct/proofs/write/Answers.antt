-- `direct::write` meets its contract: the laws of `Written`.
use Rattle.std.proofs.Common.{arith, ◌≡◌, ◌∙◌, Bool, false, true, refl}
use Rattle.std.specs.Int.{from_bool}
use Rattle.form.specs.Numbers.{bit_of}
use Rattle.direct.specs.Solve.{written_more}
use Rattle.direct.proofs.write.Goals as goal

as_bit : (b : Bool) → from_bool b ≡ bit_of b
as_bit true = refl
as_bit false = refl

pub loop-v-preserved : goal.loop-v-preserved
loop-v-preserved c = written_more _ _ _ _ _ c.loop-v.invariant (omega arith) (omega arith) _ (c.from.ensures ∙ as_bit _)
