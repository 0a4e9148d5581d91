-- Every listing fits into a buffer of one size.
use Rattle.std.specs.Prelude.{◌≡◌, refl, List, ℕ, ◌+◌, ◌*◌, ◌<◌, ◌≤◌, length, get_or}
use Rattle.std.proofs.Common.{arith}
use Rattle.std.proofs.Math.ListN.{length-append}
use Rattle.analysis.specs.Result.{Stored, eliminated, result_in}
use Rattle.analysis.specs.Room.{operations_most}
use Rattle.form.specs.References.{formula}
use Rattle.form.specs.Refusals.{Verdict, fine, fault}
use Rattle.form.specs.Placed.{placed_fault}
use Rattle.formula.specs.Make.{none}
use Rattle.formula.specs.MakeLaws.{Orderly}
use Rattle.links.specs.ListLaws.{vertex_at, vertices_long}
use Rattle.links.specs.Links.{Step}
use Rattle.meaning.proofs.Answers.{eliminated_standing}
use Rattle.meaning.specs.Ranged.{layout_ranged}
use Rattle.network.specs.Faults.{network_fault}
use Rattle.network.specs.Layout.{sections_of}
use Rattle.network.specs.Lists.{variables_length, givens_length, starts_length, switches_length}
use Rattle.network.specs.Network.{edition, network_of}
use Rattle.network.specs.Places.{network_placed}
use Rattle.network.specs.Ranges.{in_range}
use Rattle.plan.specs.Plans.{plan_in}
use Rattle.sheet.specs.declared.Cell.TheVariants.{Start}
use Rattle.stored.specs.Stored.{joins_figure, work_figure}
use Rattle.writer.specs.Last.{step_at, steps_in}
use Rattle.writer.specs.Lengths.{steps_long}
use Rattle.writer.specs.Steps.{steps_are, plan_fits}
use Rattle.lines.specs.Lines.{pivot_line, record_line, vertex_line, lines, result_lines}
use Rattle.list.specs.Listing.{listing_for, listing, listing_room}
use Rattle.list.specs.LineLengths.{Short, refused_most, pivot_most_lem, vertex_most, record_most, counts_most, lines_most}

-- No pivot.
abbrev no_step : Step
no_step = record { vertex = 0; degree = 0 }

-- How many lines a result has at most, and how large their numbers are.
record Limited (r : Stored) : Type 0 where
  pub joins : joins_figure r ≤ 798
  pub work : work_figure r ≤ 9200
  pub variables : length r.variables ≤ edition.variables
  pub records : length r.records ≤ edition.givens + 9998
  pub orderly : Orderly (length r.variables) r.records
  pub answers : length r.answers ≤ edition.vertices
  pub answer : (v : ℕ) → v < length r.answers → get_or r.answers v 0 < formula (length r.variables) (length r.records)
  pub pivots : length r.order ≤ edition.vertices
  pub vertex : (k : ℕ) → k < length r.order → (get_or r.order k no_step).vertex < 65536
  pub degree : (k : ℕ) → k < length r.order → (get_or r.order k no_step).degree < 65536

-- Its lines.
module _ (r : Stored) (limited : Limited r) where
  pivots_most : length (lines pivot_line 0 r.order) ≤ 25 * length r.order
  pivots_most =
      lines_most pivot_line 25 no_step 0 r.order
      (λ k h. pivot_most_lem (0 + k) _ (omega (arith, limited.vertex k h)) (omega (arith, limited.degree k h)))

  records_most : length (lines record_line (formula (length r.variables) 0) r.records) ≤ 24 * length r.records
  records_most =
      lines_most record_line 24 none (formula (length r.variables) 0) r.records
      (λ k h. let earlier = limited.orderly.earlier k h in record_most _ _ (omega arith) (omega arith) (omega arith))

  answers_most : length (lines vertex_line 0 r.answers) ≤ 27 * length r.answers
  answers_most =
      lines_most vertex_line 27 0 0 r.answers (λ v h. vertex_most (0 + v) _ (omega arith) (omega (arith, limited.answer v h)))

  -- They fit, whatever number of five digits stands for the switches.
  result_fits : (switches : ℕ) → Short switches → length (result_lines switches r) ≤ listing_room
  unfolding result_lines
  result_fits switches h =
      let counts =
      counts_most (length r.answers) switches (joins_figure r) (work_figure r) (length r.records)
      (omega arith) (omega arith) (omega arith) (omega arith) (omega arith) in
      simp length-append (omega (arith, pivots_most, records_most, answers_most))

-- The result of an accepted file is so.
result_limited : (s : List ℕ) → network_fault edition s ≡ fine → Limited (result_in (network_of s))
unfolding result_in steps_in
result_limited s e =
    let sound = in_range edition s e in
    let few = operations_most s e in
    let net = network_of s in
    let n = length net.starts in
    let found = plan_in net in
    let layout = sound.layout in
    let standing = eliminated_standing net (layout_ranged s (sections_of s) layout) in
    let fits = plan_fits s (sections_of s) layout sound.within found refl in
    let order = steps_are net found refl in
    let pivots : length (result_in net).order ≡ n = rw (← order) (steps_long found n) in
    let answers = vertices_long (λ (v : ℕ). (eliminated net).cells (Start v)) n in
    let vertices = starts_length layout in
    record {
      joins = few.0;
      work = few.1;
      variables = omega (arith, variables_length layout);
      records = omega (arith, standing.few, givens_length layout);
      orderly = standing.orderly;
      answers = omega arith;
      answer = λ v h. rw (vertex_at (λ (u : ℕ). (eliminated net).cells (Start u)) n v 0 (omega arith)) (standing.there (Start v));
      pivots = omega arith;
      vertex = λ k h. rw (← order, vertex_at (step_at found) n k no_step (omega arith)) (fits.vertex k (omega arith));
      degree = λ k h. rw (← order, vertex_at (step_at found) n k no_step (omega arith)) (fits.degree k (omega arith));
    }

-- The lines of a result fit,
pub lines_fit : (s : List ℕ) → network_fault edition s ≡ fine
    → (switches : ℕ) → Short switches → length (result_lines switches (result_in (network_of s))) ≤ listing_room
lines_fit s e = result_fits _ (result_limited s e)

-- and so does every listing.
listing_for_lem : (s : List ℕ) (v : Verdict) → network_fault edition s ≡ v → length (listing_for v (network_of s)) ≤ listing_room
unfolding listing_for
listing_for_lem s fine e =
    let sound = in_range edition s e in
    lines_fit s e _ (omega (arith, switches_length sound.layout, sound.within.switches))
listing_for_lem s (fault number place) e =
    let placed = placed_fault 6656 _ number place (network_placed 6656 edition s (omega arith)) e in
    omega (arith, refused_most number place (omega (arith, placed.high)) (omega (arith, placed.inside)))

pub listing_fits : (s : List ℕ) → length (listing s) ≤ listing_room
unfolding listing
listing_fits s = listing_for_lem s _ refl
