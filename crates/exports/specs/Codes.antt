-- Replies as numbers, for callers in C.
use Rattle.std.specs.Prelude.{◌≡◌, cond, ℕ, ◌+◌, ◌*◌, ◌/◌, ◌%◌, ◌<◌, ◌≤◌, ltb, Result}
use Rattle.std.proofs.Common.{ap₂, arith, lt-ltb, le-ltb}
use Rattle.form.specs.Refusals.{Answer, refused, accepted, reply_of}
use Rattle.form.specs.declared.Fault.{Fault}

-- 2³²
abbrev pub upper : ℕ
upper = 4294967296

-- The length (or n) where accepted, and number × 2³² + place where refused.
unfoldable pub code_of : Answer ℕ → ℕ
code_of (accepted n) = n
code_of (refused number place) = number * upper + place

-- What such a number says.
unfoldable pub answer_from : ℕ → Answer ℕ
answer_from r = cond (ltb r upper) (accepted r) (refused (r / upper) (r % upper))

-- A call whose reply keeps a promise, through a door that gives the reply's number; and this number tells the reply.
pub record Through (promise : Result ℕ Fault → Type 0) (r : ℕ) : Type 0 where
  pub reply : Result ℕ Fault
  pub kept : promise reply
  pub code : r ≡ code_of (reply_of reply)
  pub says : answer_from r ≡ reply_of reply

-- Lengths and places are below 2³², and refusals are numbered from 1 to 28.
abbrev pub Narrow : Answer ℕ → Type 0
Narrow (accepted n) = n < upper
Narrow (refused number place) = (1 ≤ number) × (number ≤ 28) × (place < upper)

-- Then the number tells the answer.
pub code_says : (a : Answer ℕ) → Narrow a → answer_from (code_of a) ≡ a
unfolding code_of answer_from
code_says (accepted n) h = rw (lt-ltb n upper h)
code_says (refused number place) h =
    let r : ℕ = number * upper + place in
    let a : upper ≤ r = omega (arith, h.0) in
    let q : r / upper ≡ number = omega (arith, h.2) in
    let m : r % upper ≡ place = omega (arith, h.2) in
    rw (le-ltb r upper a) (ap₂ refused q m)
