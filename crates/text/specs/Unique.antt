-- Two outcomes that the promise of putting a text allows coincide: the place after it, and every byte of the lent buffer.
use Rattle.std.specs.Prelude.{◌≡◌, List, ℕ}
use Rattle.std.proofs.Common.{sym, ◌∙◌}
use Rattle.text.specs.Puts.{Puts}

pub unique : (bytes : List ℕ) (at : ℕ) (before x y : List ℕ) (r q : ℕ) → Puts bytes at before x r → Puts bytes at before y q → (r ≡ q) × (x ≡ y)
unique bytes at before x y r q c d = (c.end ∙ sym d.end, c.put ∙ sym d.put)
