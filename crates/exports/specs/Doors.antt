-- What the doors promise, and that each way out keeps it.
use Rattle.std.specs.Prelude.{◌≡◌, List, ℕ, ◌+◌, ◌*◌, Result, Ok, Err}
use Rattle.form.specs.Refusals.{refused, number_of, place_of, reply_of}
use Rattle.form.specs.declared.Fault.{Fault}
use Rattle.analyse.specs.Promise as analyse
use Rattle.direct.specs.Promise as direct
use Rattle.exports.specs.Bounds.{analysis_narrow, direct_narrow}
use Rattle.exports.specs.Codes.{upper, code_of, Narrow, code_says, Through}

-- The number of a refusal,
pub refused_code : (f : Fault) (number place : ℕ) → number ≡ number_of f → place ≡ place_of f
    → number * upper + place ≡ code_of (refused (number_of f) (place_of f))
unfolding code_of
refused_code f number place a b = rw (← a, ← b)

-- and of a reply, by its cases.
module _ (reply : Result ℕ Fault) where
  pub accepted_code : (n : ℕ) → reply ≡ Ok n → n ≡ code_of (reply_of reply)
  unfolding code_of
  accepted_code n e = rw e

  module _ (f : Fault) (e : reply ≡ Err f) where
    pub refused_narrow : Narrow (reply_of reply) → Narrow (refused (number_of f) (place_of f))
    refused_narrow h = rw e at h

    pub refusal_code : (r : ℕ) → r ≡ code_of (refused (number_of f) (place_of f)) → r ≡ code_of (reply_of reply)
    refusal_code r h = rw e h

module _ (s before after : List ℕ) (reply : Result ℕ Fault) where
  pub analysed_narrow : analyse.Promise s before after reply → Narrow (reply_of reply)
  analysed_narrow kept = rw kept.reply (analysis_narrow s _)

  pub analysed_through : analyse.Promise s before after reply → (r : ℕ) → r ≡ code_of (reply_of reply) → Through (analyse.Promise s before after) r
  analysed_through kept r e =
      record { reply = reply; kept = kept; code = e; says = rw e (code_says (reply_of reply) (analysed_narrow kept)) }

module _ (s setting before after : List ℕ) (reply : Result ℕ Fault) where
  pub directed_narrow : direct.Promise s setting before after reply → Narrow (reply_of reply)
  directed_narrow kept = rw kept.reply (direct_narrow s setting _)

  pub directed_through : direct.Promise s setting before after reply → (r : ℕ) → r ≡ code_of (reply_of reply)
      → Through (direct.Promise s setting before after) r
  directed_through kept r e =
      record { reply = reply; kept = kept; code = e; says = rw e (code_says (reply_of reply) (directed_narrow kept)) }
