-- Two outcomes that the promise allows coincide: the length, and every byte of the lent buffer.
use Rattle.std.specs.Prelude.{◌≡◌, List, ℕ}
use Rattle.std.proofs.Common.{sym, ◌∙◌}
use Rattle.list.specs.Promise.{Promise}

pub unique : (s before x y : List ℕ) (r q : ℕ) → Promise s before x r → Promise s before y q → (r ≡ q) × (x ≡ y)
unique s before x y r q c d = (c.long ∙ sym d.long, c.bytes ∙ sym d.bytes)
