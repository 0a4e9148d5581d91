-- Numbers and truths in bytes.
use Rattle.std.specs.Prelude.{◌≡◌, refl, Bool, true, false, cond, List, [], ◌∷◌, ℕ, ◌+◌, ◌*◌, ◌/◌, ◌%◌, ◌<◌, eqb, get_or, set}
use Rattle.std.proofs.Common.{arith, eq-eqb, ne_eqb}

-- All numbers are 16 bits, low byte first: the number at a place of a byte string.
unfoldable pub word_at : List ℕ → ℕ → ℕ
word_at s at = get_or s at 0 + 256 * get_or s (at + 1) 0

-- The bytes of numbers, one number after another.
unfoldable pub bytes_of : List ℕ → List ℕ
bytes_of [] = []
bytes_of (n ∷ ns) = n % 256 ∷ n / 256 ∷ bytes_of ns

-- A number written at a place, low byte first,
unfoldable pub put_word : List ℕ → ℕ → ℕ → List ℕ
put_word s at n = set (set s at (n % 256)) (at + 1) (n / 256)

-- and numbers written one after another.
unfoldable pub put_numbers : List ℕ → ℕ → List ℕ → List ℕ
put_numbers s at [] = s
put_numbers s at (n ∷ ns) = put_numbers (put_word s at n) (at + 2) ns

-- A truth is written as 1 or 0.
abbrev pub bit_of : Bool → ℕ
bit_of b = cond b 1 0

-- It is read back by a test for 1.
pub bit_back : (b : Bool) → eqb (bit_of b) 1 ≡ b
bit_back true = refl
bit_back false = refl

pub bit_below : (b : Bool) → bit_of b < 2
bit_below true = omega arith
bit_below false = omega arith

-- The ways out of `bit`.
pub bit_one : (x : ℕ) → x ≡ 1 → 1 ≡ bit_of (eqb x 1)
bit_one x e = rw (eq-eqb x 1 e)

pub bit_zero : (x : ℕ) → (x ≡ 1 → ⊥) → 0 ≡ bit_of (eqb x 1)
bit_zero x e = rw (ne_eqb x 1 e)
