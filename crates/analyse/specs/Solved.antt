-- The elimination of an accepted file: wired, then carried out in the planned order.
use Rattle.std.specs.Prelude.{◌≡◌, List, ℕ, ◌+◌, ◌-◌, ◌*◌, ◌≤◌, take, replicate}
use Rattle.std.proofs.Math.Path.{sym, ap}
use Rattle.std.proofs.Common.{◌∙◌}
use native.Mathlib.Omega.{arith}
use Rattle.std.proofs.Math.ListN.{length, length-append, length-replicate, get_or-map}
use Rattle.std.proofs.Math.Seq.{take-append_seam}
use Rattle.analysis.specs.Result.{eliminated}
use Rattle.elimination.specs.Plan.{plan_of, work_of}
use Rattle.links.specs.Links.{order}
use Rattle.links.specs.OrderLaws.{order_length}
use Rattle.links.specs.Switches.{links_of, joins_of}
use Rattle.network.specs.Layout.{Sound}
use Rattle.network.specs.Lists.{variables_length, starts_length}
use Rattle.network.specs.Network.{edition, side, entries_of, network_of}
use Rattle.network.specs.declared.Sections.{Sections}
use Rattle.operations.specs.Runs.{sheet_in, Ready, Ran}
use Rattle.plan.specs.Measure.{operations_of}
use Rattle.plan.specs.PlanLaws.{order_is, order_inside}
use Rattle.plan.specs.Plans.{none_taken, padded, plan_for, plan_in, order_of_plan}
use Rattle.plan.specs.declared.Plan.{Plan}
use Rattle.plan.specs.declared.Taken.{Taken}
use Rattle.records.specs.Bytes.{records_in, put_records}
use Rattle.records.specs.Grown.{Table, grown_then, table_less, table_after}
use Rattle.rows.specs.Row.{all_of, vertices_all}
use Rattle.sheet.specs.Asks.{work}
use Rattle.sheet.specs.Cells.{cells_in}
use Rattle.sheet.specs.Perform.{Sheet}
use Rattle.solve.specs.Levels.{Level}
use Rattle.solve.specs.Turns.{plan_from}
use Rattle.operations.specs.Worksheets.{Able, Carried}
use Rattle.operations.specs.declared.Worksheet.{Worksheet}
use Rattle.records.specs.Entered.{Noted, Empty}
use Rattle.wiring.specs.Sheet.{WiredIn}

-- The answers are in the cells, and the records in place; there are no more than given formulas, joins and work together.
pub record SolvedIn (file : List ℕ) (parts : Sections) (found : Plan) (base : ℕ) (out cells out' : List ℕ) (count : ℕ) : Type 0 where
  pub answers : cells_in cells ≡ (eliminated (network_of file)).cells
  pub bytes : out' ≡ put_records out base (eliminated (network_of file)).records
  pub all : count ≡ length (eliminated (network_of file)).records
  pub few : count ≤ parts.givens + operations_of found

module _ (file : List ℕ) (parts : Sections) (sound : Sound edition file parts) (found : Plan) (e : found ≡ plan_in (network_of file)) where
  -- The plan's numbers are the definition's.
  joins_are : found.joins ≡ joins_of (network_of file).switches
  unfolding plan_in plan_for
  joins_are = rw e

  work_is : found.work ≡ work_of (length (network_of file).starts) (links_of (network_of file).switches)
  unfolding plan_in plan_for
  work_is = rw e

  module _ (base : ℕ) (out : List ℕ) (table : Table parts.variables base (parts.givens + operations_of found) 0 out) where
    -- There is room for the given formulas and the joins.
    pub wiring_table : Table parts.variables base (parts.givens + joins_of (network_of file).switches) 0 out
    wiring_table =
        table_less parts.variables base (parts.givens + operations_of found) (parts.givens + joins_of (network_of file).switches)
        (omega (arith, joins_are)) table

    module _ (cells links o : List ℕ) (m : ℕ) (is : WiredIn file parts base out cells links o m) (named : List ℕ)
        (listed : named ≡ order_of_plan found) where
      n_is : length (network_of file).starts ≡ parts.vertices
      n_is = starts_length sound.layout

      -- The order without the zeros beyond it.
      ordered : take parts.vertices named ≡ order (length (network_of file).starts) (links_of (network_of file).switches)
      unfolding padded
      ordered =
          let n = length (network_of file).starts in
          let g = links_of (network_of file).switches in
          let l : parts.vertices ≡ length (order n g) = sym (order_length n g ∙ n_is) in
          rw (listed, order_is (network_of file) found e, l) (take-append_seam (order n g) (replicate (side - length (order n g)) 0))

      -- The pivots are vertices.
      pub plan_level : Level links named parts.vertices 0
      unfolding padded
      plan_level =
          let n = length (network_of file).starts in
          let g = links_of (network_of file).switches in
          let l = order_length n g in
          let zeros = length-replicate {A = ℕ} (side - length (order n g)) 0 in
          record {
            few = sound.within.vertices;
            within = omega arith;
            linked = is.long;
            listed = rw (listed, order_is (network_of file) found e)
                (omega (arith, length-append (order n g) (replicate (side - length (order n g)) 0), n_is, sound.within.vertices));
            vertex = λ j h. rw (listed, get_or-map (λ (t : Taken). t.vertex) found.steps j none_taken)
                (omega (arith, order_inside (network_of file) found e j (omega (arith, n_is)), n_is, sound.within.vertices));
          }

      -- All vertices remain at first.
      module _ (remain : ℕ) (all : remain ≡ all_of parts.vertices) where
        plan_is : plan_from links remain named parts.vertices 0
            ≡ plan_of (length (network_of file).starts) (links_of (network_of file).switches)
        unfolding plan_from
        plan_is = rw (ordered, is.graph, all, vertices_all parts.vertices, ← n_is)

        -- The plan can be carried out,
        pub plan_ready : Ready parts.variables base (work (plan_from links remain named parts.vertices 0)) cells o m
        plan_ready =
            let w = work_is in
            let j = joins_are in
            let e : parts.givens + operations_of found
            ≡ (parts.givens + joins_of (network_of file).switches) + work_of (length (network_of file).starts) (links_of (network_of file).switches)
            = omega arith in
            rw plan_is
            (record {
              held = is.held;
              table = table_after parts.variables base (parts.givens + joins_of (network_of file).switches)
                  (work_of (length (network_of file).starts) (links_of (network_of file).switches)) (rw e at table) is.grown;
            })

        module _ (cells' out' : List ℕ) (count : ℕ)
            (ran : Ran parts.variables base (plan_from links remain named parts.vertices 0) cells o m cells' out' count) where
          done : sheet_in cells' out' base count ≡ eliminated (network_of file)
          unfolding eliminated
          done =
              let p = variables_length sound.layout in
              rw (p, ← plan_is, ← is.sheet) ran.sheet

          -- and then the network is eliminated.
          pub plan_solved : SolvedIn file parts found base out cells' out' count
          unfolding sheet_in records_in entries_of
          plan_solved =
              let grown = grown_then parts.variables base (parts.givens + joins_of (network_of file).switches)
              (work (plan_from links remain named parts.vertices 0)) is.grown ran.grown in
              let records : records_in out' base count ≡ (eliminated (network_of file)).records = ap (λ (st : Sheet). st.records) done in
              let added : grown.added ≡ (eliminated (network_of file)).records = sym grown.records ∙ records in
              let place : base + 6 * 0 ≡ base = omega arith in
              let more : count ≡ 0 + length (eliminated (network_of file)).records = rw added at grown.more in
              record {
                answers = ap (λ (st : Sheet). st.cells) done;
                bytes = rw (place, added) at grown.bytes;
                all = omega arith;
                few = omega (arith, grown.more, grown.few, ap work plan_is, work_is, joins_are);
              }

-- The same of a worksheet, whose records have been wired from none.
module _ (file : List ℕ) (parts : Sections) (sound : Sound edition file parts) (found : Plan) (e : found ≡ plan_in (network_of file)) (out : List ℕ)
    (w : Worksheet) (empty : Empty parts.variables w.records)
    (table : Table parts.variables w.records.base (parts.givens + operations_of found) 0 out) (w' : Worksheet) (links o : List ℕ)
    (is : WiredIn file parts w.records.base out w'.cells links o w'.records.count) (noted : Noted w'.records o)
    (base : w'.records.base ≡ w.records.base) (variables : w'.records.variables ≡ w.records.variables) (named : List ℕ)
    (listed : named ≡ order_of_plan found) (remain : ℕ) (all : remain ≡ all_of parts.vertices) where
  numbered : w'.records.variables ≡ parts.variables
  numbered = variables ∙ empty.variables

  -- The plan can be carried out on it,
  pub plan_able : Able (work (plan_from links remain named parts.vertices 0)) w' o
  plan_able =
      let r = plan_ready file parts sound found e w.records.base out table w'.cells links o w'.records.count is named listed remain all in
      record { ready = rw (numbered, base) r; noted = noted }

  -- and then the network is eliminated.
  pub plan_carried : (w″ : Worksheet) (o' : List ℕ) → Carried (plan_from links remain named parts.vertices 0) w' o w″ o'
      → SolvedIn file parts found w.records.base out w″.cells o' w″.records.count
  plan_carried w″ o' x =
      let ran : Ran parts.variables w.records.base (plan_from links remain named parts.vertices 0) w'.cells o w'.records.count w″.cells o' w″.records.count
      = rw (numbered, base) at x.runs in
      plan_solved file parts sound found e w.records.base out table w'.cells links o w'.records.count is named listed remain all
      w″.cells o' w″.records.count ran
