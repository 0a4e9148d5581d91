-- What a number in decimal is, whatever the turns allowed, and how long it is at most.
use Rattle.std.specs.Prelude.{◌≡◌, refl, ◌++◌, ℕ, zero, suc, ◌/◌, ◌%◌, ◌^◌, ◌<◌, ◌≤◌, ltb, length}
use Rattle.std.proofs.Common.{sym, ◌∙◌, arith, lt-ltb, le-ltb, ltb-true, ltb-false, length-append}
use Rattle.std.proofs.Math.Nat.{pow-succ'}
use Rattle.laws.specs.Tests.{by_test}
use Rattle.text.specs.Texts.{digit, digits_in, decimal}

-- Turns enough are turns enough.
digits_same : (t u n : ℕ) → n ≤ t → n ≤ u → digits_in t n ≡ digits_in u n
unfolding digits_in
digits_same zero zero n h k = refl
digits_same zero (suc u) n h k = rw (lt-ltb n 10 (omega arith))
digits_same (suc t) zero n h k = rw (lt-ltb n 10 (omega arith))
digits_same (suc t) (suc u) n h k = rw (digits_same t u (n / 10) (omega arith) (omega arith))

digits_enough : (turns n : ℕ) → n ≤ turns → digits_in turns n ≡ decimal n
unfolding decimal
digits_enough turns n h = digits_same turns n n h (omega arith)

-- One digit alone,
pub decimal_one : (n : ℕ) → n < 10 → decimal n ≡ digit n
unfolding digits_in
decimal_one n h = sym (digits_enough (suc n) n (omega arith)) ∙ rw (lt-ltb n 10 h)

-- and one more after those of the tenth.
pub decimal_more : (n : ℕ) → 10 ≤ n → decimal n ≡ decimal (n / 10) ++ digit (n % 10)
unfolding digits_in
decimal_more n h = sym (digits_enough (suc n) n (omega arith)) ∙ rw (le-ltb n 10 h, digits_enough n (n / 10) (omega arith))

-- A number below a power of ten has no more digits than that.
pub decimal_most : (k n : ℕ) → n < 10 ^ k → 0 < k → length (decimal n) ≤ k
decimal_most zero n h l = absurd (omega arith)
decimal_most (suc zero) n h l = rw (decimal_one n (omega arith)) (omega arith)
decimal_most (suc (suc k)) n h l =
    by_test (ltb n 10)
    (λ t. rw (decimal_one n (ltb-true n 10 t)) (omega arith))
    (λ t. rw (decimal_more n (ltb-false n 10 t), length-append (decimal (n / 10)) (digit (n % 10)))
    (omega (arith, decimal_most (suc k) (n / 10) (omega (arith, pow-succ' 10 (suc k))) (omega arith))))

-- A smaller number has no more digits. So many turns are allowed.
decimal_grows : (turns m n : ℕ) → n ≤ turns → m ≤ n → length (decimal m) ≤ length (decimal n)
decimal_grows zero m n h l = rw (decimal_one m (omega arith), decimal_one n (omega arith)) (omega arith)
decimal_grows (suc turns) m n h l =
    by_test (ltb n 10)
    (λ t. let i = ltb-true n 10 t in rw (decimal_one m (omega arith), decimal_one n i) (omega arith))
    (λ t. let i = ltb-false n 10 t in
    let more = length-append (decimal (n / 10)) (digit (n % 10)) in
    by_test (ltb m 10)
    (λ q. rw (decimal_one m (ltb-true m 10 q), decimal_more n i, more) (omega arith))
    (λ q. rw (decimal_more m (ltb-false m 10 q), length-append (decimal (m / 10)) (digit (m % 10)), decimal_more n i, more)
    (omega (arith, decimal_grows turns (m / 10) (n / 10) (omega arith) (omega arith)))))

pub decimal_shorter : (m n : ℕ) → m ≤ n → length (decimal m) ≤ length (decimal n)
decimal_shorter m n = decimal_grows n m n (omega arith)
