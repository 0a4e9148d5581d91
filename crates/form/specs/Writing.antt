-- What is read after a number was written, and what numbers that are written one after another leave.
use Rattle.std.specs.Prelude.{◌≡◌, refl, List, [], ◌∷◌, ◌++◌, ℕ, suc, ◌+◌, ◌*◌, ◌/◌, ◌%◌, ◌≤◌, length, get_or, set, drop}
use Rattle.std.proofs.Common.{ap, ◌∙◌, arith, length-set, get_or-set_same, get_or-set_other}
use Rattle.std.proofs.lemmas.List.{set_comm}
use Rattle.std.proofs.lemmas.List.Edits.{sets, sets-eq}
use Rattle.form.specs.Numbers.{word_at, bytes_of, put_word, put_numbers}

pub word_length : (s : List ℕ) (at n : ℕ) → length (put_word s at n) ≡ length s
unfolding put_word
word_length s at n = simp length-set

pub numbers_length : (s : List ℕ) (at : ℕ) (ns : List ℕ) → length (put_numbers s at ns) ≡ length s
unfolding put_numbers
numbers_length s at [] = refl
numbers_length s at (n ∷ ns) = numbers_length (put_word s at n) (at + 2) ns ∙ word_length s at n

-- A byte apart from the number stays.
pub byte_apart : (s : List ℕ) (at n k : ℕ) → (k ≡ at → ⊥) → (k ≡ at + 1 → ⊥) → get_or (put_word s at n) k 0 ≡ get_or s k 0
unfolding put_word
byte_apart s at n k f g = get_or-set_other (set s at (n % 256)) (at + 1) k (n / 256) 0 g ∙ get_or-set_other s at k (n % 256) 0 f

pub word_same : (s : List ℕ) (at n : ℕ) → at + 2 ≤ length s → word_at (put_word s at n) at ≡ n
unfolding put_word word_at
word_same s at n h =
    let low : get_or (set (set s at (n % 256)) (at + 1) (n / 256)) at 0 ≡ n % 256 =
    get_or-set_other (set s at (n % 256)) (at + 1) at (n / 256) 0 (λ e. omega arith) ∙ get_or-set_same s at (n % 256) 0 (omega arith) in
    let high : get_or (set (set s at (n % 256)) (at + 1) (n / 256)) (at + 1) 0 ≡ n / 256 =
    get_or-set_same (set s at (n % 256)) (at + 1) (n / 256) 0 (simp length-set (omega arith)) in
    omega arith

pub word_apart : (s : List ℕ) (at n k : ℕ) → (k ≡ at → ⊥) → (k ≡ at + 1 → ⊥) → (k + 1 ≡ at → ⊥) → word_at (put_word s at n) k ≡ word_at s k
unfolding word_at
word_apart s at n k f g h =
    let low = byte_apart s at n k f g in
    let high = byte_apart s at n (k + 1) (λ e. h (omega arith)) (λ e. f (omega arith)) in
    omega arith

-- Numbers written later leave what is before them.
pub before_numbers : (s : List ℕ) (at : ℕ) (ns : List ℕ) (k : ℕ) → k + 2 ≤ at → word_at (put_numbers s at ns) k ≡ word_at s k
unfolding put_numbers
before_numbers s at [] k h = refl
before_numbers s at (n ∷ ns) k h =
    before_numbers (put_word s at n) (at + 2) ns k (omega arith) ∙ word_apart s at n k (λ e. omega arith) (λ e. omega arith) (λ e. omega arith)

-- One list of numbers after another.
pub numbers_append : (s : List ℕ) (at : ℕ) (ms ns : List ℕ) → put_numbers s at (ms ++ ns) ≡ put_numbers (put_numbers s at ms) (at + 2 * length ms) ns
unfolding put_numbers
numbers_append s at [] ns = ap (λ (k : ℕ). put_numbers s k ns) (omega arith)
numbers_append s at (m ∷ ms) ns =
    numbers_append (put_word s at m) (at + 2) ms ns
    ∙ ap (λ (k : ℕ). put_numbers (put_numbers (put_word s at m) (at + 2) ms) k ns) (omega arith)

-- Two numbers apart may change places.
word_swap : (s : List ℕ) (at n k m : ℕ) → k + 2 ≤ at → put_word (put_word s at n) k m ≡ put_word (put_word s k m) at n
unfolding put_word
word_swap s at n k m h =
    rw (
      set_comm (set s at (n % 256)) (at + 1) k (n / 256) (m % 256) (λ e. omega arith),
      set_comm s at k (n % 256) (m % 256) (λ e. omega arith),
      set_comm (set (set s k (m % 256)) at (n % 256)) (at + 1) (k + 1) (n / 256) (m / 256) (λ e. omega arith),
      set_comm (set s k (m % 256)) at (k + 1) (n % 256) (m / 256) (λ e. omega arith),
    )

-- A number before others may be written after them.
pub word_before : (s : List ℕ) (at : ℕ) (ns : List ℕ) (k n : ℕ) → k + 2 ≤ at → put_word (put_numbers s at ns) k n ≡ put_numbers (put_word s k n) at ns
unfolding put_numbers
word_before s at [] k n h = refl
word_before s at (m ∷ ns) k n h =
    word_before (put_word s at m) (at + 2) ns k n (omega arith) ∙ ap (λ (t : List ℕ). put_numbers t (at + 2) ns) (word_swap s at m k n h)

-- Two bytes for each number.
pub bytes_length : (ns : List ℕ) → length (bytes_of ns) ≡ 2 * length ns
unfolding bytes_of
bytes_length [] = refl
bytes_length (n ∷ ns) = omega (arith, bytes_length ns)

-- Numbers are written byte after byte,
numbers_sets : (s : List ℕ) (at : ℕ) (ns : List ℕ) → put_numbers s at ns ≡ sets s at (bytes_of ns)
unfolding put_numbers put_word bytes_of
numbers_sets s at [] = refl
numbers_sets s at (n ∷ ns) =
    let one : at + 1 ≡ suc at = omega arith in
    let two : at + 2 ≡ suc (suc at) = omega arith in
    rw (one, two) (numbers_sets (set (set s at (n % 256)) (suc at) (n / 256)) (suc (suc at)) ns)

-- and from the front on they are the first bytes; the others stay.
pub numbers_bytes : (s ns : List ℕ) → 2 * length ns ≤ length s → put_numbers s 0 ns ≡ bytes_of ns ++ drop (2 * length ns) s
numbers_bytes s ns h =
    let l : 0 + length (bytes_of ns) ≡ 2 * length ns = omega (arith, bytes_length ns) in
    numbers_sets s 0 ns ∙ rw l at (sets-eq (bytes_of ns) s 0 (omega arith))
