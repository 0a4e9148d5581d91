-- What a caller learns from the reader's answer.
use Rattle.std.specs.Prelude.{◌≡◌, List, ℕ, Result, Ok, Err, IsErrAnd}
use Rattle.std.proofs.lemmas.Result.{err_from_is_err_and}
use Rattle.form.specs.declared.Fault.{Fault}
use Rattle.form.specs.Refusals.{fault, accepted, number_of, place_of}
use Rattle.form.specs.Verdicts.{refuses}
use Rattle.network.specs.declared.Sections.{Sections}
use Rattle.network.specs.Faults.{network_fault}
use Rattle.network.specs.Layout.{Sound, sections_of, network_answer}
use Rattle.network.specs.Network.{edition}
use Rattle.network.specs.Ranges.{sound}
use Rattle.reader.specs.Answers.{checked_of}

-- A fault that is passed on is the result.
pub passed_on : {A : Type 0} (r : Result A Fault) (f : Fault) → IsErrAnd r (λ e. e ≡ f) → r ≡ Err f
passed_on r f h = let p = err_from_is_err_and r h in rw (p.1, p.2)

module _ (s : List ℕ) (r : Result Sections Fault) where
  -- The file is refused,
  pub reads_refused : (f : Fault) → r ≡ Err f → checked_of r ≡ network_answer edition s
      → fault (number_of f) (place_of f) ≡ network_fault edition s
  reads_refused f e a = refuses (sections_of s) _ _ _ (rw e at a)

  -- or accepted, and then it is sound.
  module _ (parts : Sections) (e : r ≡ Ok parts) (a : checked_of r ≡ network_answer edition s) where
    pub reads_accepted : accepted parts ≡ network_answer edition s
    reads_accepted = rw e at a

    pub reads_sound : Sound edition s parts
    reads_sound = sound edition s parts reads_accepted
