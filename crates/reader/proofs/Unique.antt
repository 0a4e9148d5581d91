-- What an answer says determines it, and acceptance tells what the file is.
use Rattle.std.specs.Prelude.{◌≡◌, List, ℕ, Result}
use Rattle.form.specs.Verdicts.{result_unique}
use Rattle.form.specs.declared.Fault.{Fault}
use Rattle.network.specs.Network.{edition}
use Rattle.network.specs.Layout.{network_answer}
use Rattle.network.specs.Places.{longest_file}
use Rattle.network.specs.Ranges.{sound}
use Rattle.network.specs.declared.Sections.{Sections}
use Rattle.reader.specs.Answers.{checked_of, Told}

pub told : (s : List ℕ) (r : Result Sections Fault) → checked_of r ≡ network_answer edition s → Told s r
told s r e =
    record {
      sound = λ found a. sound edition s found (rw a at e);
      longest = λ found a. let b = sound edition s found (rw a at e) in longest_file edition s found b.layout b.within;
    }

-- Two answers that the promise allows coincide.
pub checked_unique : (r q : Result Sections Fault) → checked_of r ≡ checked_of q → r ≡ q
checked_unique r q e = result_unique r q e
