-- Two outcomes that the promise allows coincide: the reply, and every byte of the lent buffer.
use Rattle.std.specs.Prelude.{◌≡◌, List, ℕ, Result}
use Rattle.std.proofs.Common.{sym, ◌∙◌}
use Rattle.form.specs.declared.Fault.{Fault}
use Rattle.form.specs.Verdicts.{reply_unique}
use Rattle.analyse.specs.Promise.{Promise}

pub unique : (s before x y : List ℕ) (r q : Result ℕ Fault) → Promise s before x r → Promise s before y q → (r ≡ q) × (x ≡ y)
unique s before x y r q c d = (reply_unique r q (c.reply ∙ sym d.reply), c.bytes ∙ sym d.bytes)
