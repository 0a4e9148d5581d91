-- The direct answer for one setting: its refusals, and what it writes.
use Rattle.std.specs.Prelude.{◌≡◌, ◌⊎◌, cond, not, List, [], ◌∷◌, ℕ, suc, ◌<◌, eqb, leb, ltb, length, get_or, drop}
use Rattle.form.specs.Refusals.{Verdict, fault_if, first_of, Answer, refused, accepted, answer}
use Rattle.network.specs.Network.{Network, network_of}
use Rattle.network.specs.Faults.{network_fault}
use Rattle.network.specs.declared.Limits.{Limits}
use Rattle.paths.specs.Paths.{Reached}

-- 10: setting's length is not p. Place 0.
unfoldable pub length_fault : ℕ → List ℕ → Verdict
length_fault p setting = fault_if (not (eqb (length setting) p)) 10 0

-- The lowest index of a byte that is not 0 or 1, or the length where there is none.
unfoldable pub first_bad : List ℕ → ℕ
first_bad [] = 0
first_bad (x ∷ xs) = cond (leb x 1) (suc (first_bad xs)) 0

-- 11: setting byte not 0 or 1. Its index.
unfoldable pub byte_fault : List ℕ → Verdict
byte_fault setting = fault_if (ltb (first_bad setting) (length setting)) 11 (first_bad setting)

-- 12: direct answer's room below the vertex count. Place 0.
unfoldable pub answer_room_fault : ℕ → ℕ → Verdict
answer_room_fault n room = fault_if (ltb room n) 12 0

-- 1 to 7, then 10, 11 (lowest index), 12.
unfoldable pub direct_fault : Limits → List ℕ → List ℕ → ℕ → Verdict
direct_fault limits s setting room =
    let net = network_of s in
    first_of (network_fault limits s)
    (first_of (length_fault (length net.variables) setting) (first_of (byte_fault setting) (answer_room_fault (length net.starts) room)))

-- It returns n,
unfoldable pub direct_answer : Limits → List ℕ → List ℕ → ℕ → Answer ℕ
direct_answer limits s setting room = answer (direct_fault limits s setting room) (length (network_of s).starts)

-- and writes 1 or 0 for each vertex in the first n bytes by demand 2's path rule; later bytes stay.
pub record Answered (net : Network) (setting before after : List ℕ) : Type 0 where
  pub long : length after ≡ length before
  pub paths : (v : ℕ) → v < length net.starts → ((get_or after v 0 ≡ 1) × Reached net setting v) ⊎ ((get_or after v 0 ≡ 0) × (Reached net setting v → ⊥))
  pub later : drop (length net.starts) after ≡ drop (length net.starts) before

-- The lent bytes afterwards: a refusal writes nothing.
abbrev pub Leaves : Answer ℕ → Network → List ℕ → List ℕ → List ℕ → Type 0
Leaves (refused number place) net setting before after = after ≡ before
Leaves (accepted n) net setting before after = Answered net setting before after
