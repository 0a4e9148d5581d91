-- What the analysis of a file, in room enough for any result, tells of its listing.
use Rattle.std.specs.Prelude.{◌≡◌, List, ◌++◌, ℕ, ◌≤◌, length, Result, Ok, Err}
use Rattle.std.proofs.Common.{arith}
use Rattle.std.proofs.Math.ListN.{drop, length-append}
use Rattle.analyse.specs.Promise.{Promise}
use Rattle.analysis.specs.Analysis.{analysis_fault, analysis, length_in}
use Rattle.analysis.specs.Result.{result_of}
use Rattle.analysis.specs.Room.{result_room, fault_in_room}
use Rattle.form.specs.Refusals.{Verdict, fine, fault, refused, accepted, answer, number_of, place_of}
use Rattle.form.specs.declared.Fault.{Fault}
use Rattle.lines.specs.Lines.{result_lines}
use Rattle.lines.specs.Parts.{Whole}
use Rattle.network.specs.Faults.{network_fault}
use Rattle.network.specs.Layout.{Sound}
use Rattle.network.specs.Lists.{switches_length}
use Rattle.network.specs.Network.{edition, network_of}
use Rattle.network.specs.declared.Sections.{Sections}
use Rattle.stored.proofs.Lengths.{result_end_lem, result_three}
use Rattle.stored.specs.Stored.{stored_of}
use Rattle.stored.proofs.StoredLaws.{stored_back}
use Rattle.text.specs.Puts.{Puts}
use Rattle.list.specs.LineLengths.{Short}
use Rattle.list.specs.Lengths.{lines_fit, listing_fits}
use Rattle.list.specs.Listing.{refused_line, listing_for, listing, listing_room}

-- A reply tells the verdict.
length_refused : (v : Verdict) (bytes : List ℕ) (number place : ℕ) → refused number place ≡ length_in (answer v bytes) → v ≡ fault number place
length_refused fine bytes number place e = let z : ◌≡◌ {A = ℕ} 0 1 = cc in absurd (omega arith)
length_refused (fault m p) bytes number place e = cc

length_accepted : (v : Verdict) (bytes : List ℕ) (n : ℕ) → accepted n ≡ length_in (answer v bytes) → v ≡ fine
length_accepted fine bytes n e = cc
length_accepted (fault m p) bytes n e = let z : ◌≡◌ {A = ℕ} 0 1 = cc in absurd (omega arith)

-- A buffer that has a whole result, whose lines are the listing, and fit whatever number of at most five digits stands for the switches.
pub record Listed (s after : List ℕ) : Type 0 where
  pub whole : Whole after
  pub lines : listing s ≡ result_lines (length (network_of s).switches) (stored_of after)
  pub fits : (switches : ℕ) → Short switches → length (result_lines switches (stored_of after)) ≤ listing_room

-- What an analysis in room enough for any result tells of the listing: it is a refusal's line, or those of the result.
unfoldable pub Tells : List ℕ → List ℕ → Result ℕ Fault → Type 0
Tells s after (Err f) = listing s ≡ refused_line (number_of f) (place_of f)
Tells s after (Ok n) = Listed s after

module _ (s before after : List ℕ) (room : length before ≡ result_room) where
  -- The listing goes by the analysis' own verdict.
  fault_by : (v : Verdict) → analysis_fault edition s (length before) ≡ v → network_fault edition s ≡ v
  fault_by v e = let f = fault_in_room s in rw (← f, ← room, e)

  listing_by : (v : Verdict) → analysis_fault edition s (length before) ≡ v → listing s ≡ listing_for v (network_of s)
  unfolding listing
  listing_by v e = rw (fault_by v e)

  pub analysis_tells : (reply : Result ℕ Fault) → Promise s before after reply → Tells s after reply
  unfolding Tells analysis listing_for
  analysis_tells (Err f) call =
      listing_by _ (length_refused (analysis_fault edition s (length before)) (result_of (network_of s)) _ _ call.reply)
  analysis_tells (Ok n) call =
      let net = network_of s in
      let v = length_accepted (analysis_fault edition s (length before)) (result_of net) n call.reply in
      let tail = drop (length (result_of net)) before in
      let bytes : after ≡ result_of net ++ tail = rw v at call.bytes in
      let end = result_end_lem net tail in
      record {
        whole = rw bytes (record { room = omega (arith, length-append (result_of net) tail); three = result_three net tail });
        lines = rw (bytes, stored_back net tail) (listing_by fine v);
        fits = rw (bytes, stored_back net tail) (lines_fit s (fault_by fine v));
      }

-- By its cases.
module _ (s after : List ℕ) (reply : Result ℕ Fault) (told : Tells s after reply) where
  module _ (f : Fault) (e : reply ≡ Err f) where
    line : listing s ≡ refused_line (number_of f) (place_of f)
    unfolding Tells
    line = rw e at told

    pub told_short : (out : List ℕ) → listing_room ≤ length out → length (refused_line (number_of f) (place_of f)) ≤ length out
    told_short out h = rw (← line) (omega (arith, listing_fits s))

    pub told_refused : {out put : List ℕ} {r : ℕ} → Puts (refused_line (number_of f) (place_of f)) 0 out put r → Puts (listing s) 0 out put r
    told_refused puts = rw line puts

  module _ (n : ℕ) (e : reply ≡ Ok n) where
    listed : Listed s after
    unfolding Tells
    listed = rw e at told

    pub told_whole : Whole after
    told_whole = listed.whole

    -- Its lines fit, whatever number of five digits stands for the switches;
    pub told_fits : (switches most : ℕ) → switches ≤ most → most ≤ 99999 → (out : List ℕ) → listing_room ≤ length out
        → length (result_lines switches (stored_of after)) ≤ length out
    told_fits switches most a b out h = omega (arith, listed.fits switches (omega arith))

    -- with the file's own they are the listing.
    pub told_put : (parts : Sections) → Sound edition s parts
        → {out put : List ℕ} {r : ℕ} → Puts (result_lines parts.switches (stored_of after)) 0 out put r → Puts (listing s) 0 out put r
    told_put parts sound puts =
        let count = switches_length sound.layout in
        let lines : listing s ≡ result_lines parts.switches (stored_of after) = rw (← count) listed.lines in
        rw lines puts
