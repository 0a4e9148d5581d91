-- A verdict from the fact about the numbers, and back.
use Rattle.std.specs.Prelude.{◌≡◌, refl, Bool, true, false, cond, ℕ, ◌<◌, ◌≤◌, eqb, leb, ltb, Result, Ok, Err}
use Rattle.std.proofs.Common.{ap, sym, ◌∙◌, arith, le-leb, lt-ltb, le-ltb}
use Rattle.std.proofs.lemmas.Bool.{lt-leb}
use Rattle.form.specs.declared.Fault.{Fault}
use Rattle.form.specs.declared.Fault.TheVariants as faults
use Rattle.form.specs.Refusals.{Verdict, fine, fault, fault_if, first_of, Answer, refused, accepted, answer, number_of, place_of, answer_of, reply_of}

-- A test that compares two numbers.
module _ (n p : ℕ) {a b : ℕ} where
  pub above_fault : a < b → fault n p ≡ fault_if (ltb a b) n p
  above_fault h = rw (lt-ltb _ _ h)

  pub above_fine : b ≤ a → fine ≡ fault_if (ltb a b) n p
  above_fine h = rw (le-ltb _ _ h)

  pub from_fault : a ≤ b → fault n p ≡ fault_if (leb a b) n p
  from_fault h = rw (le-leb _ _ h)

  pub from_fine : b < a → fine ≡ fault_if (leb a b) n p
  from_fine h = rw (lt-leb _ _ h)

-- Where nothing is wrong, no test holds, and nothing was wrong before.
pub if_fine : (t : Bool) (n p : ℕ) → fault_if t n p ≡ fine → t ≡ false
if_fine true n p e = let z : ◌≡◌ {A = ℕ} 0 1 = cc in absurd (omega arith)
if_fine false n p e = refl

pub first_fine : (a b : Verdict) → first_of a b ≡ fine → (a ≡ fine) × (b ≡ fine)
first_fine fine b e = (refl, e)
first_fine (fault n p) b e = let z : ◌≡◌ {A = ℕ} 0 1 = cc in absurd (omega arith)

-- An answer tells its verdict.
module _ {A : Type 0} where
  pub accepts : (a b : A) (v : Verdict) → accepted a ≡ answer v b → (fine ≡ v) × (a ≡ b)
  accepts a b fine e = (refl, cc)
  accepts a b (fault number place) e = let z : ◌≡◌ {A = ℕ} 0 1 = cc in absurd (omega arith)

  pub refuses : (b : A) (n p : ℕ) (v : Verdict) → refused n p ≡ answer v b → fault n p ≡ v
  refuses b n p fine e = cc
  refuses b n p (fault number place) e = cc

-- The number and the place say which fault it is,
abbrev pub fault_from : ℕ → ℕ → Fault
fault_from n place =
    cond (eqb n 1) (faults.Cut place)
    (cond (eqb n 2) (faults.Count place)
    (cond (eqb n 3) (faults.Coil place)
    (cond (eqb n 4) (faults.Kind place)
    (cond (eqb n 5) (faults.Reference place)
    (cond (eqb n 6) (faults.End place)
    (cond (eqb n 7) (faults.Trailing place)
    (cond (eqb n 9) faults.ResultRoom
    (cond (eqb n 10) faults.SettingLength
    (cond (eqb n 11) (faults.SettingByte place) faults.AnswerRoom)))))))))

pub fault_back : (f : Fault) → fault_from (number_of f) (place_of f) ≡ f
fault_back (faults.Cut place) = refl
fault_back (faults.Count place) = refl
fault_back (faults.Coil place) = refl
fault_back (faults.Kind place) = refl
fault_back (faults.Reference place) = refl
fault_back (faults.End place) = refl
fault_back (faults.Trailing place) = refl
fault_back faults.ResultRoom = refl
fault_back faults.SettingLength = refl
fault_back (faults.SettingByte index) = refl
fault_back faults.AnswerRoom = refl

-- but for 8, which is no fault's.
eight_of_none : (f : Fault) → number_of f ≡ 8 → ⊥
eight_of_none (faults.Cut place) e = omega arith
eight_of_none (faults.Count place) e = omega arith
eight_of_none (faults.Coil place) e = omega arith
eight_of_none (faults.Kind place) e = omega arith
eight_of_none (faults.Reference place) e = omega arith
eight_of_none (faults.End place) e = omega arith
eight_of_none (faults.Trailing place) e = omega arith
eight_of_none faults.ResultRoom e = omega arith
eight_of_none faults.SettingLength e = omega arith
eight_of_none (faults.SettingByte index) e = omega arith
eight_of_none faults.AnswerRoom e = omega arith

pub eight_unused : (r : Result ℕ Fault) (place : ℕ) → reply_of r ≡ refused 8 place → ⊥
eight_unused (Ok n) place e = let z : ◌≡◌ {A = ℕ} 0 1 = cc in omega arith
eight_unused (Err f) place e = eight_of_none f cc

-- What a result says determines it.
module _ {A : Type 0} where
  abbrev result_from : Answer A → Result A Fault
  result_from (refused n p) = Err (fault_from n p)
  result_from (accepted a) = Ok a

  result_back : (r : Result A Fault) → result_from (answer_of r) ≡ r
  result_back (Ok a) = refl
  result_back (Err f) = ap Err (fault_back f)

  pub result_unique : (r q : Result A Fault) → answer_of r ≡ answer_of q → r ≡ q
  result_unique r q e = sym (result_back r) ∙ ap result_from e ∙ result_back q

pub reply_unique : (r q : Result ℕ Fault) → reply_of r ≡ reply_of q → r ≡ q
reply_unique r q e = result_unique r q e
