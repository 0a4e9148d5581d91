-- The analysis of a byte string with a given room: refused with a number and a place, or the bytes of the result.
use Rattle.std.specs.Prelude.{List, ◌++◌, ℕ, length, drop}
use Rattle.form.specs.Refusals.{Verdict, first_of, Answer, refused, accepted, answer}
use Rattle.network.specs.Network.{network_of}
use Rattle.network.specs.Faults.{network_fault}
use Rattle.network.specs.declared.Limits.{Limits}
use Rattle.plan.specs.Measure.{room_fault}
use Rattle.analysis.specs.Result.{result_of}

-- 1 to 7, then 9.
unfoldable pub analysis_fault : Limits → List ℕ → ℕ → Verdict
analysis_fault limits s room = first_of (network_fault limits s) (room_fault (network_of s) room)

-- The whole analysis.
unfoldable pub analysis : Limits → List ℕ → ℕ → Answer (List ℕ)
analysis limits s room = answer (analysis_fault limits s room) (result_of (network_of s))

-- The lent buffer afterwards: a refusal writes nothing; bytes beyond the written length stay as they came.
abbrev pub buffer_after : Answer (List ℕ) → List ℕ → List ℕ
buffer_after (refused number place) buffer = buffer
buffer_after (accepted bytes) buffer = bytes ++ drop (length bytes) buffer

-- What the call gives: the length where it is accepted.
abbrev pub length_in : Answer (List ℕ) → Answer ℕ
length_in (refused number place) = refused number place
length_in (accepted bytes) = accepted (length bytes)
