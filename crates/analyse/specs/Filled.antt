-- The buffer filled: variables, records in place, and the sections after them.
use Rattle.std.specs.Prelude.{◌≡◌, List, ℕ, ◌+◌, ◌*◌, ◌<◌, ◌≤◌, length}
use Rattle.std.proofs.Common.{arith}
use Rattle.analysis.specs.Result.{eliminated, section, single}
use Rattle.form.specs.Numbers.{put_numbers}
use Rattle.form.specs.Writing.{numbers_length}
use Rattle.formula.proofs.MakeLaws.{orderly_none}
use Rattle.network.specs.Layout.{Sound}
use Rattle.network.specs.Network.{edition, entries_of, network_of}
use Rattle.network.specs.declared.Sections.{Sections}
use Rattle.plan.specs.Measure.{operations_of, room_in}
use Rattle.plan.proofs.Measure.{edition_most}
use Rattle.plan.specs.Plans.{plan_in}
use Rattle.plan.specs.declared.Plan.{Plan}
use Rattle.records.specs.Bytes.{records_in}
use Rattle.records.specs.Grown.{Table}
use Rattle.records.specs.Laws.{puts_length}
use Rattle.sheet.specs.Cells.{cells_in}
use Rattle.writer.specs.Last.{Fits, Finished, result_length}
use Rattle.writer.specs.Steps.{plan_fits}
use Rattle.writer.specs.Whole.{Whole, whole}
use Rattle.analyse.specs.Solved.{SolvedIn}

-- An accepted file with its plan, and a buffer that has the room.
pub record Fillable (file : List ℕ) (parts : Sections) (found : Plan) (out : List ℕ) : Type 0 where
  pub sound : Sound edition file parts
  pub planned : found ≡ plan_in (network_of file)
  pub room : room_in parts found ≤ length out

module _ (file : List ℕ) (parts : Sections) (found : Plan) (out : List ℕ) (able : Fillable file parts found out) where
  -- There is room for the variables,
  pub fill_variables : 2 + 2 * parts.variables ≤ length out
  fill_variables = omega (arith, able.room)

  pub fill_fits : Fits found parts.vertices
  fill_fits = plan_fits file parts able.sound.layout able.sound.within found able.planned

  few : (found.joins ≤ 798) × (found.work ≤ 9200)
  few = edition_most file parts able.sound.layout able.sound.within found able.planned

  module _ (first : List ℕ) (e : first ≡ put_numbers out 0 (section single (network_of file).variables)) where
    long : length first ≡ length out
    long = rw e (numbers_length out 0 (section single (network_of file).variables))

    -- for the records,
    pub fill_table : Table parts.variables (4 + 2 * parts.variables) (parts.givens + operations_of found) 0 first
    unfolding records_in entries_of
    fill_table =
        record {
          orderly = orderly_none parts.variables;
          room = omega (arith, able.room, long);
          fits = omega (arith, few.0, few.1, able.sound.within.variables, able.sound.within.givens);
        }

    module _ (cells second : List ℕ) (count : ℕ) (solved : SolvedIn file parts found (4 + 2 * parts.variables) first cells second count) where
      -- and for all that comes after them;
      pub fill_count : count < 65536
      fill_count = omega (arith, solved.few, few.0, few.1, able.sound.within.givens)

      pub fill_room : result_length parts count ≤ length second
      fill_room =
          let l : length second ≡ length first =
          rw solved.bytes (puts_length first (4 + 2 * parts.variables) (eliminated (network_of file)).records) in
          omega (arith, able.room, solved.few, long)

      -- and then it is the result.
      pub filled : (after : List ℕ) (r : ℕ) → Finished parts found (cells_in cells) count second after r → Whole (network_of file) out after r
      filled after r done =
          whole file parts able.sound.layout found able.planned cells solved.answers count solved.all out first second after r
          (omega (arith, able.room, solved.few)) e solved.bytes done
