-- Refusals: a number and a place.
use Rattle.std.specs.Prelude.{Bool, true, false, List, ◌++◌, ℕ, Result, Ok, Err, codes, decimal}
use Rattle.form.specs.declared.Fault.{Fault}
use Rattle.form.specs.declared.Fault.TheVariants as faults

-- Nothing is wrong, or the number of the cause and its place.
pub data Verdict : Type 0 where
  fine : Verdict
  fault : ℕ → ℕ → Verdict

-- A refusal given exactly on its cause.
abbrev pub fault_if : Bool → ℕ → ℕ → Verdict
fault_if true number place = fault number place
fault_if false number place = fine

-- The first fault wins.
abbrev pub first_of : Verdict → Verdict → Verdict
first_of fine later = later
first_of (fault number place) later = fault number place

-- A call is refused with a number and a place, or accepted with what it gives.
pub data Answer (A : Type 0) : Type 0 where
  refused : ℕ → ℕ → Answer A
  accepted : A → Answer A

-- What is given where nothing is wrong.
abbrev pub answer : {A : Type 0} → Verdict → A → Answer A
answer fine a = accepted a
answer (fault number place) a = refused number place

-- The number of each fault; 8 is unused.
abbrev pub number_of : Fault → ℕ
number_of (faults.Cut place) = 1
number_of (faults.Count place) = 2
number_of (faults.Coil place) = 3
number_of (faults.Kind place) = 4
number_of (faults.Reference place) = 5
number_of (faults.End place) = 6
number_of (faults.Trailing place) = 7
number_of faults.ResultRoom = 9
number_of faults.SettingLength = 10
number_of (faults.SettingByte index) = 11
number_of faults.AnswerRoom = 12

-- The place of each fault.
abbrev pub place_of : Fault → ℕ
place_of (faults.Cut place) = place
place_of (faults.Count place) = place
place_of (faults.Coil place) = place
place_of (faults.Kind place) = place
place_of (faults.Reference place) = place
place_of (faults.End place) = place
place_of (faults.Trailing place) = place
place_of faults.ResultRoom = 0
place_of faults.SettingLength = 0
place_of (faults.SettingByte index) = index
place_of faults.AnswerRoom = 0

-- A refusal in words: its number and its place, in decimal.
abbrev pub words_of : Fault → List ℕ
words_of f = codes "refusal " ++ decimal (number_of f) ++ codes " at " ++ decimal (place_of f)

-- What a result says: refused with its fault's number and place, or accepted with what it gives.
abbrev pub answer_of : {A : Type 0} → Result A Fault → Answer A
answer_of (Ok a) = accepted a
answer_of (Err f) = refused (number_of f) (place_of f)

-- A reply's result is how much was written.
abbrev pub reply_of : Result ℕ Fault → Answer ℕ
reply_of r = answer_of r
