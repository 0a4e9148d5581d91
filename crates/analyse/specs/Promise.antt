-- What `analyse` promises, and that each way out keeps it.
use Rattle.std.specs.Prelude.{◌≡◌, List, ℕ, ◌<◌, ◌≤◌, length, drop, Result, Ok, Err}
use Rattle.std.proofs.Common.{sym, ◌∙◌, arith}
use borrow.Author.Tests.{lt-ltb, le-ltb}
use Rattle.analysis.specs.Analysis.{analysis_fault, analysis, buffer_after, length_in}
use Rattle.analysis.specs.Result.{result_in, result_of}
use Rattle.form.specs.declared.Fault.{Fault}
use Rattle.form.specs.declared.Fault.TheVariants as faults
use Rattle.form.specs.Refusals.{fine, fault, Answer, refused, accepted, number_of, place_of, reply_of}
use Rattle.form.specs.Verdicts.{accepts}
use Rattle.meaning.specs.Ranged.{layout_ranged}
use Rattle.network.specs.declared.Sections.{Sections}
use Rattle.network.specs.Faults.{network_fault}
use Rattle.network.specs.Layout.{sections_of, network_answer}
use Rattle.network.specs.Network.{Network, edition, network_of}
use Rattle.network.specs.Ranges.{sound}
use Rattle.plan.specs.Measure.{room_fault, room_in, room_is}
use Rattle.plan.specs.Plans.{plan_in}
use Rattle.plan.specs.declared.Plan.{Plan}
use Rattle.reader.specs.Answers.{checked_of}
use Rattle.reader.specs.Callers.{reads_refused}
use Rattle.stored.specs.Figures.{Figures, result_figures}
use Rattle.stored.specs.Stored.{stored_of}
use Rattle.stored.proofs.StoredLaws.{stored_back}
use Rattle.stored.specs.Truths.{Truths, result_truths}
use Rattle.writer.specs.Whole.{Whole}
use Rattle.analyse.specs.Filled.{Fillable}

-- What the lent bytes tell afterwards, read back from themselves: each vertex's truth by the path rule, and what the elimination costs.
pub record Tells (net : Network) (after : List ℕ) : Type 0 where
  pub truths : Truths net (stored_of after)
  pub figures : Figures net (stored_of after)

-- They tell it where the file is accepted.
abbrev pub Told : Answer (List ℕ) → Network → List ℕ → Type 0
Told (refused number place) net after = Unit
Told (accepted bytes) net after = Tells net after

-- Its reply, each byte of the lent buffer afterwards, and what these bytes tell.
pub record Promise (s before after : List ℕ) (r : Result ℕ Fault) : Type 0 where
  pub reply : reply_of r ≡ length_in (analysis edition s (length before))
  pub bytes : after ≡ buffer_after (analysis edition s (length before)) before
  pub told : Told (analysis edition s (length before)) (network_of s) after

-- An answered call's bytes tell it.
pub told_answered : {s before after : List ℕ} {r : Result ℕ Fault} → Promise s before after r → (n : ℕ) → reply_of r ≡ accepted n → Tells (network_of s) after
told_answered {s} {before} {after} call n e = go (analysis edition s (length before)) (sym e ∙ call.reply) call.told
  where
    go : (a : Answer (List ℕ)) → accepted n ≡ length_in a → Told a (network_of s) after → Tells (network_of s) after
    go (refused number place) e t = let z : ◌≡◌ {A = ℕ} 0 1 = cc in absurd (omega arith)
    go (accepted bytes) e t = t

module _ (s before : List ℕ) where
  -- A refusal writes nothing.
  refusal : (f : Fault) → fault (number_of f) (place_of f) ≡ analysis_fault edition s (length before) → Promise s before before (Err f)
  unfolding analysis
  refusal f e = record { reply = rw (← e); bytes = rw (← e); told = rw (← e) tt }

  -- The file is refused.
  pub analyse_unread : (r : Result Sections Fault) (f : Fault) → r ≡ Err f → checked_of r ≡ network_answer edition s
      → Promise s before before (Err f)
  unfolding analysis_fault
  analyse_unread r f e a = let v = reads_refused s r f e a in refusal f (rw (← v))

  module _ (parts : Sections) (a : accepted parts ≡ network_answer edition s) (found : Plan) (e : found ≡ plan_in (network_of s)) where
    good : fine ≡ network_fault edition s
    good = (accepts parts (sections_of s) _ a).0

    -- A buffer that has been filled tells what it must.
    tells : (after : List ℕ) (n : ℕ) → Whole (network_of s) before after n → Tells (network_of s) after
    tells after n whole =
        let said : stored_of after ≡ result_in (network_of s) =
        rw whole.bytes (stored_back (network_of s) (drop (length (result_of (network_of s))) before)) in
        let ranged = layout_ranged s parts (sound edition s parts a).layout in
        record { truths = rw said (result_truths (network_of s) ranged); figures = rw said (result_figures (network_of s) ranged) }

    module _ (room : ℕ) (is : room ≡ room_in parts found) where
      -- The buffer is too small.
      pub analyse_room : length before < room → Promise s before before (Err faults.ResultRoom)
      unfolding analysis_fault room_fault
      analyse_room m =
          let w = room_is s parts (sound edition s parts a).layout found e in
          refusal faults.ResultRoom (rw (← good, ← w, ← is, lt-ltb _ _ m))

      -- It can be filled.
      pub analyse_able : room ≤ length before → Fillable s parts found before
      analyse_able m =
          record {
            sound = sound edition s parts a;
            planned = e;
            room = omega arith;
          }

      -- It has been filled.
      pub analyse_done : room ≤ length before → (after : List ℕ) (n : ℕ) → Whole (network_of s) before after n
          → Promise s before after (Ok n)
      unfolding analysis analysis_fault room_fault
      analyse_done m after n whole =
          let w = room_is s parts (sound edition s parts a).layout found e in
          let v : fine ≡ analysis_fault edition s (length before) =
          rw (← good, ← w, ← is, le-ltb _ _ m) in
          record { reply = rw (← v, ← whole.long); bytes = rw (← v) whole.bytes; told = rw (← v) (tells after n whole) }
