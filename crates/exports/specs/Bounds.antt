-- Every length and place that the product gives is below 2³², and refusals are numbered from 1 to 28.
use Rattle.std.specs.Prelude.{◌≡◌, refl, not, List, [], ◌∷◌, ℕ, ◌<◌, ◌≤◌, eqb, leb, ltb}
use native.Mathlib.Omega.{arith}
use borrow.Author.Tests.{eqb-true, not-false}
use Rattle.std.proofs.Math.ListN.{length}
use Rattle.analysis.specs.Analysis.{analysis_fault, analysis, length_in}
use Rattle.analysis.specs.Result.{result_of}
use Rattle.analysis.specs.Room.{room_most, analysis_placed}
use Rattle.direct.specs.Direct.{first_bad, length_fault, byte_fault, answer_room_fault, direct_fault, direct_answer}
use Rattle.form.specs.Placed.{PlacedIn, placed_first, placed_if}
use Rattle.form.specs.Refusals.{Verdict, fine, fault, answer}
use Rattle.form.specs.Verdicts.{if_fine, first_fine}
use Rattle.laws.specs.Tests.{by_test}
use Rattle.meaning.specs.Ranged.{layout_ranged}
use Rattle.network.specs.Faults.{network_fault}
use Rattle.network.specs.Layout.{Sound, sections_of}
use Rattle.network.specs.Lists.{variables_length, starts_length}
use Rattle.network.specs.Network.{edition, network_of}
use Rattle.network.specs.Places.{network_placed}
use Rattle.network.specs.Ranges.{in_range}
use Rattle.stored.proofs.Lengths.{result_within}
use Rattle.exports.specs.Codes.{upper, Narrow}

-- An answer whose verdict is placed, and that gives little.
answer_narrow : (v : Verdict) (n : ℕ) → PlacedIn 6656 v → (v ≡ fine → n < upper) → Narrow (answer v n)
unfolding PlacedIn
answer_narrow fine n h few = few refl
answer_narrow (fault number place) n h few = (h.low, h.high, omega (arith, h.inside))

length_of_answer : (v : Verdict) (bytes : List ℕ) → length_in (answer v bytes) ≡ answer v (length bytes)
length_of_answer fine bytes = refl
length_of_answer (fault number place) bytes = refl

-- The first bad byte is in the setting or behind it.
bad_within : (setting : List ℕ) → first_bad setting ≤ length setting
unfolding first_bad
bad_within [] = omega arith
bad_within (x ∷ xs) = by_test (leb x 1) (λ t. rw t (omega (arith, bad_within xs))) (λ t. rw t (omega arith))

module _ (s : List ℕ) where
  -- A result is short.
  result_short : (room : ℕ) → analysis_fault edition s room ≡ fine → length (result_of (network_of s)) < upper
  unfolding analysis_fault
  result_short room e =
      let h = first_fine (network_fault edition s) _ e in
      let file = in_range edition s h.0 in
      omega (arith, result_within (network_of s) (layout_ranged s _ file.layout), room_most s h.0)

  pub analysis_narrow : (room : ℕ) → Narrow (length_in (analysis edition s room))
  unfolding analysis
  analysis_narrow room =
      rw (length_of_answer (analysis_fault edition s room) (result_of (network_of s)))
      (answer_narrow _ _ (analysis_placed s room) (result_short room))

  module _ (setting : List ℕ) (room : ℕ) where
    -- A setting of the right length has at most as many bytes as a file may have variables.
    bad_placed : network_fault edition s ≡ fine → length_fault (length (network_of s).variables) setting ≡ fine → PlacedIn 6656 (byte_fault setting)
    unfolding length_fault byte_fault
    bad_placed e f =
        let file = in_range edition s e in
        let l : length setting ≡ length (network_of s).variables = eqb-true _ _ (not-false _ (if_fine _ _ _ f)) in
        let few : first_bad setting ≤ 6656 = omega (arith, bad_within setting, variables_length file.layout, file.within.variables) in
        placed_if 6656 (ltb (first_bad setting) (length setting)) 11 (first_bad setting) (omega arith, omega arith, few)

    direct_placed : PlacedIn 6656 (direct_fault edition s setting room)
    unfolding direct_fault length_fault answer_room_fault
    direct_placed =
        placed_first 6656 _ _ (network_placed 6656 edition s (omega arith))
        (λ e. placed_first 6656 _ _ (placed_if 6656 (not (eqb (length setting) (length (network_of s).variables))) 10 0 (omega arith))
        (λ f. placed_first 6656 _ _ (bad_placed e f) (λ g. placed_if 6656 (ltb room (length (network_of s).starts)) 12 0 (omega arith))))

    answered_sound : direct_fault edition s setting room ≡ fine → Sound edition s (sections_of s)
    unfolding direct_fault
    answered_sound e = in_range edition s (first_fine (network_fault edition s) _ e).0

    pub direct_narrow : Narrow (direct_answer edition s setting room)
    unfolding direct_answer
    direct_narrow =
        answer_narrow _ _ direct_placed
        (λ e. let file = answered_sound e in omega (arith, starts_length file.layout, file.within.vertices))
