-- Room that is enough for any result, and how far the numbers and places of refusals reach.
use Rattle.std.specs.Prelude.{◌≡◌, List, ℕ, ◌≤◌, ltb}
use Rattle.std.proofs.Math.Path.{refl, sym}
use Rattle.std.proofs.Common.{arith}
use Rattle.form.specs.Placed.{PlacedIn, placed_first, placed_if}
use Rattle.form.specs.Refusals.{Verdict, fine, fault, first_of}
use Rattle.form.specs.Verdicts.{above_fine}
use Rattle.network.specs.Faults.{network_fault}
use Rattle.network.specs.Lists.{variables_length, givens_length, starts_length}
use Rattle.network.specs.Network.{edition, network_of}
use Rattle.network.specs.Places.{network_placed}
use Rattle.network.specs.Ranges.{in_range}
use Rattle.links.specs.Switches.{joins_of}
use Rattle.network.specs.Layout.{sections_of}
use Rattle.plan.specs.Measure.{work_in, operations, room_for, room_fault}
use Rattle.plan.proofs.Measure.{edition_most}
use Rattle.plan.specs.Plans.{plan_for, plan_in}
use Rattle.analysis.specs.Analysis.{analysis_fault}

-- Room for any result.
abbrev pub result_room : ℕ
result_room = 63548

-- A later test that finds nothing where the first does not makes no difference.
first_last : (a b : Verdict) → (a ≡ fine → b ≡ fine) → first_of a b ≡ a
first_last fine b e = e refl
first_last (fault number place) b e = refl

module _ (s : List ℕ) where
  -- Where 1 to 7 find nothing, joins are at most 798 and the work is at most 9,200,
  pub operations_most : network_fault edition s ≡ fine → (joins_of (network_of s).switches ≤ 798) × (work_in (network_of s) ≤ 9200)
  unfolding plan_in plan_for
  operations_most e =
      let sound = in_range edition s e in
      edition_most s (sections_of s) sound.layout sound.within (plan_in (network_of s)) refl

  -- and no more room is needed,
  pub room_most : network_fault edition s ≡ fine → room_for (network_of s) ≤ result_room
  unfolding room_for operations
  room_most e =
      let sound = in_range edition s e in
      let few = operations_most e in
      omega (arith, variables_length sound.layout, givens_length sound.layout, starts_length sound.layout, sound.within)

  -- so that in this room the first fault is the first of 1 to 7.
  pub fault_in_room : analysis_fault edition s result_room ≡ network_fault edition s
  unfolding analysis_fault room_fault
  fault_in_room = first_last (network_fault edition s) _ (λ e. sym (above_fine 9 0 (room_most e)))

  -- The numbers and places of 1 to 7 and of 9.
  pub analysis_placed : (room : ℕ) → PlacedIn 6656 (analysis_fault edition s room)
  unfolding analysis_fault room_fault
  analysis_placed room =
      placed_first 6656 _ _ (network_placed 6656 edition s (omega arith))
      (λ e. placed_if 6656 (ltb room (room_for (network_of s))) 9 0 (omega arith))
