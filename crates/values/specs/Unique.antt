-- Two arrays that the promise of `values_of` allows coincide.
use Rattle.std.specs.Prelude.{◌≡◌, Bool, false, List, ℕ}
use Rattle.std.proofs.Common.{sym, ap, ◌∙◌, ext_get_or}
use Rattle.values.specs.Values.{value_in, Holds}

pub unique : (value : ℕ → Bool) (x y : List Bool) → Holds value x → Holds value y → x ≡ y
unfolding value_in
unique value x y c d = ext_get_or false x y (c.long ∙ sym d.long) (λ r h. ap (λ (f : ℕ → Bool). f r) (c.is ∙ sym d.is))
