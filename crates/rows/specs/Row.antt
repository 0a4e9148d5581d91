-- A row of bits as a set of vertices: which it has, and what becomes of it where one is added or taken out.
use Rattle.std.specs.Prelude.{◌≡◌, refl, Bool, true, false, not, cond, ◌&&◌, ◌||◌, List, ℕ, zero, suc, min, max, ◌+◌, ◌*◌, ◌-◌, ◌/◌, ◌%◌, ◌^◌, ◌<◌, ◌≤◌}
use Rattle.std.proofs.Common.{sym, ◌∙◌, arith, pow-suc, mul_comm, eq-eqb, ne_eqb, eqb-true, pow_pos}
use Rattle.std.proofs.Math.Path.{ap}
use Rattle.std.proofs.Math.Bool.{and-true, and-false, or-true, or-false}
use Rattle.std.proofs.Math.Nat.{zero-div, div-div-eq-div-mul}
use Rattle.std.proofs.Math.Arith.{bin_ind}
use Rattle.std.specs.Int.Bits.{bit_and, bit_or, bit_xor, differ, and_step, or_step, xor_step}
use Rattle.std.proofs.lemmas.Nat.{and_shr, or_shr, xor_shr, and_mask}
use Rattle.std.proofs.Math.Dec.{eqb, eqb-zero-suc, eqb-suc-zero, eqb-suc-suc}
use Rattle.laws.specs.Tests.{by_same, both_true}
use Rattle.links.specs.Lists.{keep, without, vertices}
use Rattle.links.specs.ListLaws.{Ascending, keep_all, keep_keep, keep_same, ascending_keep, up_to_bounds, up_to_ascending}

-- A row has v where its bit v is 1.
unfoldable pub has : ℕ → ℕ → Bool
has row v = eqb (row / 2 ^ v % 2) 1

-- Those of n vertices that a row has, ascending.
unfoldable pub vertices_in : ℕ → ℕ → List ℕ
vertices_in n row = keep (has row) (vertices n)

-- The row that has v too,
unfoldable pub including : ℕ → ℕ → ℕ
including row v = bit_or row (2 ^ v)

-- and the one that has it no more.
unfoldable pub excluding : ℕ → ℕ → ℕ
excluding row v = bit_xor (bit_or row (2 ^ v)) (2 ^ v)

-- The row of the first n vertices.
unfoldable pub all_of : ℕ → ℕ
all_of n = 2 ^ n - 1

-- The code's words for these.
pub including_is : (row v bit : ℕ) → bit ≡ 2 ^ v → bit_or row bit ≡ including row v
unfolding including
including_is row v bit e = rw e

pub excluding_is : (row v bit again : ℕ) → bit ≡ 2 ^ v → again ≡ 2 ^ v → bit_xor (bit_or row bit) again ≡ excluding row v
unfolding excluding
excluding_is row v bit again e f = rw (e, f)

pub all_is : (n bit : ℕ) → bit ≡ 2 ^ n → bit - 1 ≡ all_of n
unfolding all_of
all_is n bit e = rw e

-- A bit is read by a shift and a mask.
pub bit_read : (row v : ℕ) → eqb (bit_and (row / 2 ^ v) 1) 1 ≡ has row v
unfolding has
bit_read row v = ap (λ (b : ℕ). eqb b 1) (and_mask (row / 2 ^ v) 1)

-- What holds of both digits holds of a digit.
digit : (P : ℕ → Type 0) → P 0 → P 1 → (x : ℕ) → x < 2 → P x
digit P a b zero h = a
digit P a b (suc zero) h = b
digit P a b (suc (suc x)) h = absurd (omega arith)

-- An operation that goes digit by digit goes bit by bit.
module _ (op f : ℕ → ℕ → ℕ) (test : Bool → Bool → Bool)
    (shift : (a b k : ℕ) → op a b / 2 ^ k ≡ op (a / 2 ^ k) (b / 2 ^ k))
    (step : (a b : ℕ) → op a b ≡ op (a / 2) (b / 2) * 2 + f (a % 2) (b % 2))
    (digits : (x : ℕ) → x < 2 → (y : ℕ) → y < 2 → (f x y < 2) × (eqb (f x y) 1 ≡ test (eqb x 1) (eqb y 1))) where
  bitwise : (a b v : ℕ) → has (op a b) v ≡ test (has a v) (has b v)
  unfolding has
  bitwise a b v =
      let x = a / 2 ^ v in
      let y = b / 2 ^ v in
      let d = digits (x % 2) (omega arith) (y % 2) (omega arith) in
      let low : (op (x / 2) (y / 2) * 2 + f (x % 2) (y % 2)) % 2 ≡ f (x % 2) (y % 2) = omega (arith, d.0) in
      ap (λ (z : ℕ). eqb (z % 2) 1) (shift a b v ∙ step x y) ∙ ap (λ (z : ℕ). eqb z 1) low ∙ d.1

pub has_and : (a b v : ℕ) → has (bit_and a b) v ≡ has a v && has b v
has_and =
    bitwise bit_and min (λ x y. x && y) and_shr and_step
    (digit _ (digit _ (omega arith, refl) (omega arith, refl)) (digit _ (omega arith, refl) (omega arith, refl)))

pub has_or : (a b v : ℕ) → has (bit_or a b) v ≡ has a v || has b v
has_or =
    bitwise bit_or max (λ x y. x || y) or_shr or_step
    (digit _ (digit _ (omega arith, refl) (omega arith, refl)) (digit _ (omega arith, refl) (omega arith, refl)))

has_xor : (a b v : ℕ) → has (bit_xor a b) v ≡ cond (has a v) (not (has b v)) (has b v)
has_xor =
    bitwise bit_xor differ (λ x y. cond x (not y) y) xor_shr xor_step
    (digit _ (digit _ (omega arith, refl) (omega arith, refl)) (digit _ (omega arith, refl) (omega arith, refl)))

-- The bits of 0, and those from the second on.
pub has_none : (v : ℕ) → has 0 v ≡ false
unfolding has
has_none v = rw (zero-div (2 ^ v))

has_next : (row v : ℕ) → has row (suc v) ≡ has (row / 2) v
unfolding has
has_next row v =
    ap (λ (d : ℕ). eqb (row / d % 2) 1) (pow-suc 2 v ∙ mul_comm (2 ^ v) 2) ∙ ap (λ (q : ℕ). eqb (q % 2) 1) (sym (div-div-eq-div-mul row 2 (2 ^ v)))

-- The row of one vertex.
has_one : (v w : ℕ) → has (2 ^ v) w ≡ eqb v w
unfolding has
has_one zero zero = refl
has_one zero (suc w) = has_next 1 w ∙ has_none w ∙ sym (eqb-zero-suc w)
has_one (suc v) zero =
    let e : 2 ^ suc v / 2 ^ 0 % 2 ≡ 0 = (let p = pow-suc 2 v in omega arith) in
    ap (λ (x : ℕ). eqb x 1) e ∙ sym (eqb-suc-zero v)
has_one (suc v) (suc w) =
    let e : 2 ^ suc v / 2 ≡ 2 ^ v = (let p = pow-suc 2 v in omega arith) in
    has_next (2 ^ suc v) w ∙ ap (λ (x : ℕ). has x w) e ∙ has_one v w ∙ sym (eqb-suc-suc v w)

pub has_including : (row v w : ℕ) → has (including row v) w ≡ has row w || eqb v w
unfolding including
has_including row v w = has_or row (2 ^ v) w ∙ ap (λ (b : Bool). has row w || b) (has_one v w)

pub has_excluding : (row v w : ℕ) → has (excluding row v) w ≡ has row w && not (eqb v w)
unfolding excluding
has_excluding row v w =
    has_xor (bit_or row (2 ^ v)) (2 ^ v) w
    ∙ rw (has_or row (2 ^ v) w, has_one v w) (by_same v w
    (λ e. rw (eq-eqb v w e, or-true (has row w), and-false (has row w)))
    (λ d. rw (ne_eqb v w d, or-false (has row w), and-true (has row w)) (same (has row w))))
  where
    same : (b : Bool) → cond b true false ≡ b
    same true = refl
    same false = refl

-- A row that has no more vertices than another is no larger,
lowest_most : (a b : ℕ) → (has a 0 ≡ true → has b 0 ≡ true) → a % 2 ≤ b % 2
unfolding has
lowest_most a b h =
    by_same (a / 2 ^ 0 % 2) 1
    (λ e. let f : b / 2 ^ 0 % 2 ≡ 1 = eqb-true _ 1 (h (eq-eqb _ 1 e)) in omega arith)
    (λ d. omega arith)

pub subset_most : (a b : ℕ) → ((v : ℕ) → has a v ≡ true → has b v ≡ true) → a ≤ b
subset_most =
    bin_ind (λ (a : ℕ). (b : ℕ) → ((v : ℕ) → has a v ≡ true → has b v ≡ true) → a ≤ b) (λ b h. omega arith)
    (λ a below b h.
    let half = below (b / 2) (λ v t. sym (has_next b v) ∙ h (suc v) (has_next a v ∙ t)) in
    let low = lowest_most a b (h 0) in
    omega arith)

-- and so is one from which a vertex was taken.
pub excluding_most : (row v : ℕ) → excluding row v ≤ row
excluding_most row v = subset_most (excluding row v) row (λ w t. (both_true (has row w) (not (eqb v w)) (sym (has_excluding row v w) ∙ t)).0)

-- The first n vertices are all of them,
has_all : (n v : ℕ) → v < n → has (2 ^ n - 1) v ≡ true
unfolding has
has_all zero v h = absurd (omega arith)
has_all (suc n) zero h =
    let odd : (2 ^ suc n - 1) / 2 ^ 0 % 2 ≡ 1 = (let p = pow-suc 2 n in let q = pow_pos n in omega arith) in eq-eqb _ 1 odd
has_all (suc n) (suc v) h =
    let e : (2 ^ suc n - 1) / 2 ≡ 2 ^ n - 1 = (let p = pow-suc 2 n in let q = pow_pos n in omega arith) in
    has_next (2 ^ suc n - 1) v ∙ ap (λ (x : ℕ). has x v) e ∙ has_all n v (omega arith)

pub all_few : (n : ℕ) → all_of n < 2 ^ n
unfolding all_of
all_few n = omega (arith, pow_pos n)

pub vertices_all : (n : ℕ) → vertices_in n (all_of n) ≡ vertices n
unfolding vertices_in all_of
vertices_all n = keep_all (has (2 ^ n - 1)) (vertices n) (λ v m. let b = up_to_bounds n 0 m in has_all n v (omega arith))

-- all but v once v is excluded,
pub vertices_excluding : (n row v : ℕ) → vertices_in n (excluding row v) ≡ without v (vertices_in n row)
unfolding vertices_in
vertices_excluding n row v =
    keep_same _ _ (vertices n) (λ w m. has_excluding row v w) ∙ sym (keep_keep (λ w. not (eqb v w)) (has row) (vertices n))

-- and in order.
pub vertices_up : (n row : ℕ) → Ascending (vertices_in n row)
unfolding vertices_in
vertices_up n row = ascending_keep (has row) (vertices n) (up_to_ascending n 0)
