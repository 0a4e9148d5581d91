-- The whole result: the variables, the records in place, and what `finish` writes.
use Rattle.std.specs.Prelude.{◌≡◌, refl, ℕ, ◌+◌, ◌*◌, ◌≤◌, drop}
use Rattle.std.proofs.Math.Path.{sym}
use Rattle.std.proofs.Common.{◌∙◌}
use mathlib.Core.List.{List, [], ◌∷◌, ◌++◌, flat_map}
use native.Mathlib.Omega.{arith}
use Rattle.std.proofs.Math.ListN.{length}
use Rattle.laws.specs.Flat.{flat_length}
use Rattle.analysis.specs.Lengths.{result_long}
use Rattle.analysis.specs.Result.{eliminated, section, single, result_in, result_numbers, result_of}
use Rattle.elimination.specs.Plan.{work_of}
use Rattle.form.specs.Numbers.{put_word, put_numbers}
use Rattle.form.specs.References.{record_entry}
use Rattle.form.specs.Writing.{word_before, bytes_length, numbers_append, numbers_bytes}
use Rattle.links.specs.Switches.{links_of, joins_of}
use Rattle.network.specs.Layout.{Layout}
use Rattle.network.specs.Lists.{variables_length, givens_length, starts_length}
use Rattle.network.specs.Network.{Network, network_of}
use Rattle.network.specs.declared.Sections.{Sections}
use Rattle.plan.specs.declared.Plan.{Plan}
use Rattle.plan.specs.Plans.{plan_for, plan_in}
use Rattle.records.specs.Bytes.{put_records}
use Rattle.sheet.specs.Cells.{cells_in}
use Rattle.sheet.specs.declared.Cell.{Cell}
use Rattle.writer.specs.Last.{answers_in, figures_in, last_numbers, records_at, answers_at, result_length, Finished}
use Rattle.writer.specs.Steps.{steps_are}

-- The bytes of a network's result are written, and their number is given; bytes of the buffer beyond them stay as they came.
pub record Whole (net : Network) (before after : List ℕ) (r : ℕ) : Type 0 where
  pub long : r ≡ length (result_of net)
  pub bytes : after ≡ result_of net ++ drop (length (result_of net)) before

-- The count of a section may be written after its entries.
count_last : {A : Type 0} (s : List ℕ) (at : ℕ) (entry : A → List ℕ) (xs : List A)
    → put_word (put_numbers s (at + 2) (flat_map entry xs)) at (length xs) ≡ put_numbers s at (section entry xs)
unfolding put_numbers
count_last s at entry xs = word_before s (at + 2) (flat_map entry xs) at (length xs) (omega arith)

-- A plan's figures are the network's.
figures_are : (net : Network) (found : Plan) → found ≡ plan_in net
    → figures_in (length net.givens) found ≡ length net.givens ∷ joins_of net.switches ∷ work_of (length net.starts) (links_of net.switches) ∷ []
unfolding figures_in plan_in plan_for
figures_are net found e = rw e

module _ (s : List ℕ) (parts : Sections) (layout : Layout s parts) (found : Plan) (e : found ≡ plan_in (network_of s)) (cells : Cell → ℕ)
    (c : cells ≡ (eliminated (network_of s)).cells) where
  -- The five sections, and how long they are.
  numbers_are : result_numbers (result_in (network_of s))
      ≡ section single (network_of s).variables ++ (section record_entry (eliminated (network_of s)).records ++ last_numbers parts found cells)
  unfolding result_numbers result_in last_numbers answers_in
  numbers_are =
      let n = starts_length layout in
      let g = givens_length layout in
      rw (c, ← n, ← g, steps_are (network_of s) found e, figures_are (network_of s) found e)

  variables_long : length (section single (network_of s).variables) ≡ 1 + parts.variables
  variables_long = omega (arith, flat_length single 1 (λ x. refl) (network_of s).variables, variables_length layout)

  module _ (count : ℕ) (m : count ≡ length (eliminated (network_of s)).records) where
    records_long : length (section record_entry (eliminated (network_of s)).records) ≡ 1 + 3 * count
    records_long = omega (arith, flat_length record_entry 3 (λ x. refl) (eliminated (network_of s)).records)

    whole_long : 2 * length (result_numbers (result_in (network_of s))) ≡ result_length parts count
    whole_long = omega (arith, result_long (network_of s), variables_length layout, starts_length layout)

    -- They are written one after another, but for the records' count.
    all_written : (before first second after : List ℕ) (r : ℕ)
        → first ≡ put_numbers before 0 (section single (network_of s).variables)
        → second ≡ put_records first (4 + 2 * parts.variables) (eliminated (network_of s)).records
        → Finished parts found cells count second after r
        → after ≡ put_numbers before 0 (result_numbers (result_in (network_of s)))
    unfolding put_records
    all_written before first second after r p q done =
        let rs = (eliminated (network_of s)).records in
        let xs = section single (network_of s).variables in
        let ys = section record_entry rs in
        let zs = last_numbers parts found cells in
        let one : 0 + 2 * length xs ≡ records_at parts = omega (arith, variables_long) in
        let two : records_at parts + 2 * length ys ≡ answers_at parts count = omega (arith, records_long) in
        let place : records_at parts + 2 ≡ 4 + 2 * parts.variables = omega arith in
        let a = rw (one, ← p) at (numbers_append before 0 xs (ys ++ zs)) in
        let b = rw two at (numbers_append first (records_at parts) ys zs) in
        let w : put_word second (records_at parts) count ≡ put_numbers first (records_at parts) ys =
        rw (q, m, ← place) (count_last first (records_at parts) record_entry rs) in
        rw numbers_are (rw w at done.bytes ∙ sym b ∙ sym a)

-- What the parts of an analysis write, one after another, is the result.
pub whole : (s : List ℕ) (parts : Sections) → Layout s parts → (found : Plan) → found ≡ plan_in (network_of s) → (cells : List ℕ)
    → cells_in cells ≡ (eliminated (network_of s)).cells → (count : ℕ) → count ≡ length (eliminated (network_of s)).records
    → (before first second after : List ℕ) (r : ℕ) → result_length parts count ≤ length before
    → first ≡ put_numbers before 0 (section single (network_of s).variables)
    → second ≡ put_records first (4 + 2 * parts.variables) (eliminated (network_of s)).records
    → Finished parts found (cells_in cells) count second after r
    → Whole (network_of s) before after r
unfolding result_of
whole s parts layout found e cells c count m before first second after r room p q done =
    let ns = result_numbers (result_in (network_of s)) in
    let l = whole_long s parts layout found e (cells_in cells) c count m in
    let bytes = bytes_length ns in
    record {
      long = omega (arith, done.long);
      bytes = rw bytes
          (all_written s parts layout found e (cells_in cells) c count m before first second after r p q done
          ∙ numbers_bytes before ns (omega arith));
    }
