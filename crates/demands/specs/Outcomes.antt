-- A call that fills a lent buffer is answered or refused, and never both.
use Rattle.std.specs.Prelude.{◌≡◌, refl, ◌⊎◌, List, ◌++◌, ℕ, length, drop, Result}
use Rattle.std.proofs.Common.{inl, inr, arith}
use Rattle.analysis.specs.Analysis.{buffer_after, length_in}
use Rattle.direct.specs.Direct.{Answered, Leaves}
use Rattle.form.specs.Refusals.{Verdict, fine, fault, refused, accepted, answer, reply_of}
use Rattle.form.specs.declared.Fault.{Fault}
use Rattle.network.specs.Network.{Network}

-- Exactly one of two.
abbrev pub OneOf : Type 0 → Type 0 → Type 0
OneOf A B = (A × (B → ⊥)) ⊎ (B × (A → ⊥))

-- Nothing is wrong: the reply is how much was written, and just that was written.
pub record Answers (v : Verdict) (r : Result ℕ Fault) (n : ℕ) (Wrote : Type 0) : Type 0 where
  pub cause : v ≡ fine
  pub reply : reply_of r ≡ accepted n
  pub wrote : Wrote

-- The reply is the number and the place of the first fault, and every lent byte is as it came.
pub record Refuses (v : Verdict) (r : Result ℕ Fault) (before after : List ℕ) : Type 0 where
  pub number : ℕ
  pub place : ℕ
  pub cause : v ≡ fault number place
  pub reply : reply_of r ≡ refused number place
  pub bytes : after ≡ before

-- A call with the first fault v, if any, and the reply r is answered, with n and what was written, or it is refused.
abbrev pub AnswersOrRefuses : Verdict → Result ℕ Fault → ℕ → Type 0 → List ℕ → List ℕ → Type 0
AnswersOrRefuses v r n Wrote before after = OneOf (Answers v r n Wrote) (Refuses v r before after)

module _ {r : Result ℕ Fault} {n : ℕ} {Wrote : Type 0} {before after : List ℕ} where
  answers : reply_of r ≡ accepted n → Wrote → AnswersOrRefuses fine r n Wrote before after
  answers e wrote =
      inl (record { cause = refl; reply = e; wrote = wrote }, λ x. let c = x.cause in let z : ◌≡◌ {A = ℕ} 0 1 = cc in absurd (omega arith))

  refuses : {number place : ℕ} → reply_of r ≡ refused number place → after ≡ before → AnswersOrRefuses (fault number place) r n Wrote before after
  refuses {number} {place} e b =
      inr (
        record { number = number; place = place; cause = refl; reply = e; bytes = b },
        λ x. let c = x.cause in let z : ◌≡◌ {A = ℕ} 0 1 = cc in absurd (omega arith),
      )

-- It is so of a call that writes a result,
pub result_or_refusal : (v : Verdict) (r : Result ℕ Fault) (result before after : List ℕ)
    → reply_of r ≡ length_in (answer v result) → after ≡ buffer_after (answer v result) before
    → AnswersOrRefuses v r (length result) (after ≡ result ++ drop (length result) before) before after
result_or_refusal fine r result before after e b = answers e b
result_or_refusal (fault number place) r result before after e b = refuses e b

-- and of one that writes the direct answer.
pub answer_or_refusal : (v : Verdict) (r : Result ℕ Fault) (n : ℕ) (net : Network) (setting before after : List ℕ)
    → reply_of r ≡ answer v n → Leaves (answer v n) net setting before after
    → AnswersOrRefuses v r n (Answered net setting before after) before after
answer_or_refusal fine r n net setting before after e b = answers e b
answer_or_refusal (fault number place) r n net setting before after e b = refuses e b
