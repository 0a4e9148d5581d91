-- What `direct` promises, and that each way out keeps it.
use Rattle.std.specs.Prelude.{◌≡◌, List, Result, Ok, Err}
use Rattle.std.proofs.Math.Path.{refl}
use Prim.Native.Nat.{ℕ, ◌<◌, ◌≤◌}
use native.Mathlib.Omega.{arith}
use borrow.Author.Tests.{eq-eqb, ne_eqb, lt-ltb, le-ltb}
use Rattle.std.proofs.Math.ListN.{length}
use Rattle.std.specs.List.{position, position_or_len}
use Rattle.std.proofs.Common.{[], ◌∷◌, Option, MatchOption, leb-true, leb-false, ltb-true, ltb-false, ltb, leb}
use Rattle.std.proofs.lemmas.List.Recursion.{is_position_or_len}
use Rattle.laws.specs.Tests.{by_test}
use Rattle.form.specs.declared.Fault.{Fault}
use Rattle.form.specs.declared.Fault.TheVariants as faults
use Rattle.form.specs.Refusals.{fine, fault, accepted, number_of, place_of, reply_of}
use Rattle.form.specs.Verdicts.{accepts}
use Rattle.network.specs.declared.Sections.{Sections}
use Rattle.network.specs.Faults.{network_fault}
use Rattle.network.specs.Layout.{sections_of, network_answer}
use Rattle.network.specs.Lists.{variables_length, starts_length}
use Rattle.network.specs.Network.{edition, network_of}
use Rattle.network.specs.Ranges.{sound}
use Rattle.reader.specs.Answers.{checked_of}
use Rattle.reader.specs.Callers.{reads_refused}
use Rattle.direct.specs.Direct.{first_bad, length_fault, byte_fault, answer_room_fault, direct_fault, direct_answer, Answered, Leaves}

-- Its reply, and the lent bytes afterwards.
pub record Promise (s setting before after : List ℕ) (r : Result ℕ Fault) : Type 0 where
  pub reply : reply_of r ≡ direct_answer edition s setting (length before)
  pub bytes : Leaves (direct_answer edition s setting (length before)) (network_of s) setting before after

-- The lowest bad index is no further than the end.
bad_within : (setting : List ℕ) → first_bad setting ≤ length setting
unfolding first_bad
bad_within [] = omega arith
bad_within (x ∷ xs) = by_test (leb x 1) (λ t. rw t (omega (arith, bad_within xs))) (λ t. rw t (omega arith))

-- The search for a byte above 1 finds the lowest bad one, or there is none.
pub bad_found : (setting : List ℕ) (r : Option ℕ) → r ≡ position (λ x. ltb 1 x) setting
    → MatchOption r (first_bad setting ≡ length setting) (λ k. (k < length setting) × (k ≡ first_bad setting))
unfolding first_bad
bad_found setting r f =
    let e : first_bad setting ≡ position_or_len (λ x. ltb 1 x) setting =
    is_position_or_len first_bad (λ x. ltb 1 x) refl
    (λ x xs. by_test (leb x 1)
    (λ t. let h : x ≤ 1 = leb-true x 1 t in rw (t, le-ltb 1 x h) (omega arith))
    (λ t. let h : 1 < x = leb-false x 1 t in rw (t, lt-ltb 1 x h))) setting in
    rw (f, ← e) (by_test (ltb (first_bad setting) (length setting))
    (λ t. rw t (ltb-true _ _ t, refl))
    (λ t. rw t (omega (arith, bad_within setting, ltb-false _ _ t))))

module _ (s setting before : List ℕ) where
  -- A refusal writes nothing.
  refusal :
      (f : Fault) →
      fault (number_of f) (place_of f) ≡ direct_fault edition s setting (length before) →
      Promise s setting before before (Err f)
  unfolding direct_answer
  refusal f e = record { reply = rw (← e); bytes = rw (← e) refl }

  -- The file is refused.
  pub direct_unread :
      (r : Result Sections Fault) (f : Fault) →
      r ≡ Err f →
      checked_of r ≡ network_answer edition s →
      Promise s setting before before (Err f)
  unfolding direct_fault
  direct_unread r f e a = let v = reads_refused s r f e a in refusal f (rw (← v))

  module _ (parts : Sections) (a : accepted parts ≡ network_answer edition s) where
    good : fine ≡ network_fault edition s
    good = (accepts parts (sections_of s) _ a).0

    p_is : length (network_of s).variables ≡ parts.variables
    p_is = variables_length (sound edition s parts a).layout

    n_is : length (network_of s).starts ≡ parts.vertices
    n_is = starts_length (sound edition s parts a).layout

    pub direct_length : (length setting ≡ parts.variables → ⊥) → Promise s setting before before (Err faults.SettingLength)
    unfolding direct_fault length_fault
    direct_length d = refusal faults.SettingLength (rw (← good, p_is, ne_eqb _ _ d))

    module _ (l : length setting ≡ parts.variables) (k : ℕ) (b : k ≡ first_bad setting) where
      pub direct_byte : k < length setting → Promise s setting before before (Err (faults.SettingByte k))
      unfolding direct_fault length_fault byte_fault
      direct_byte t = refusal (faults.SettingByte k) (rw (← good, p_is, eq-eqb _ _ l, ← b, lt-ltb k (length setting) t))

      module _ (t : length setting ≤ k) where
        pub direct_room : length before < parts.vertices → Promise s setting before before (Err faults.AnswerRoom)
        unfolding direct_fault length_fault byte_fault answer_room_fault
        direct_room m =
            refusal faults.AnswerRoom (rw (← good, p_is, eq-eqb _ _ l, ← b, le-ltb k (length setting) t, n_is, lt-ltb _ _ m))

        pub direct_done : parts.vertices ≤ length before → (after : List ℕ) → Answered (network_of s) setting before after
            → Promise s setting before after (Ok parts.vertices)
        unfolding direct_answer direct_fault length_fault byte_fault answer_room_fault
        direct_done m after x =
            let e : fine ≡ direct_fault edition s setting (length before) =
            rw (← good, p_is, eq-eqb _ _ l, ← b, le-ltb k (length setting) t, n_is, le-ltb _ _ m) in
            record { reply = rw (← e, n_is); bytes = rw (← e) x }
