-- Lists of bits.
use Rattle.std.specs.Prelude.{◌≡◌, List, ℕ, ◌<◌, eqb, length, get_or, set, replicate}
use Rattle.std.proofs.Common.{sym, ◌∙◌, arith, eqb-true, ext_get_or}
use Rattle.std.proofs.lemmas.Bool.{eqb-false}
use Rattle.laws.specs.Places.{at_zeros, set_below}
use Rattle.laws.specs.Tests.{by_test}

-- Each number of a list is 0 or 1, so that its ones determine it.
unfoldable pub Bits : List ℕ → Type 0
Bits xs = (j : ℕ) → get_or xs j 0 < 2

-- Zeros are bits,
pub zero_bits : (n : ℕ) → Bits (replicate n 0)
unfolding Bits
zero_bits n j = omega (arith, at_zeros n j)

-- and stay bits where one is written.
pub bits_set : (xs : List ℕ) (k x : ℕ) → x < 2 → Bits xs → Bits (set xs k x)
unfolding Bits
bits_set xs k x h b = set_below xs k x 2 h b

-- A bit is determined by the test for 1,
bit_same : (x y : ℕ) → x < 2 → y < 2 → eqb x 1 ≡ eqb y 1 → x ≡ y
bit_same x y h l e =
    by_test (eqb y 1)
    (λ t. eqb-true x 1 (e ∙ t) ∙ sym (eqb-true y 1 t))
    (λ t. let a = eqb-false x 1 (e ∙ t) in let b = eqb-false y 1 t in omega arith)

-- and a list of them by its length and the tests.
pub bits_unique : (xs ys : List ℕ) → length xs ≡ length ys → Bits xs → Bits ys
    → ((j : ℕ) → j < length xs → eqb (get_or xs j 0) 1 ≡ eqb (get_or ys j 0) 1) → xs ≡ ys
unfolding Bits
bits_unique xs ys l b c e = ext_get_or 0 xs ys l (λ j h. bit_same (get_or xs j 0) (get_or ys j 0) (b j) (c j) (e j h))
