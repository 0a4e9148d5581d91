-- How long the sections are.
use Rattle.std.specs.Prelude.{◌≡◌, refl, ℕ, ◌+◌, ◌*◌, length}
use Rattle.std.proofs.Common.{arith}
use Rattle.laws.specs.Flat.{flat_length}
use Rattle.analysis.specs.Result.{section, single, step_entry}
use Rattle.links.specs.ListLaws.{vertices_long}
use Rattle.plan.specs.declared.Plan.{Plan}
use Rattle.sheet.specs.declared.Cell.{Cell}
use Rattle.sheet.specs.declared.Cell.TheVariants.{Start}
use Rattle.writer.specs.Last.{answers_in, step_at, steps_in}

pub answers_long : (cells : Cell → ℕ) (n : ℕ) → length (answers_in cells n) ≡ n
unfolding answers_in
answers_long cells n = vertices_long (λ v. cells (Start v)) n

pub steps_long : (found : Plan) (n : ℕ) → length (steps_in found n) ≡ n
unfolding steps_in
steps_long found n = vertices_long (step_at found) n

-- The numbers of the sections, with their counts.
pub answers_section : (cells : Cell → ℕ) (n : ℕ) → length (section single (answers_in cells n)) ≡ n + 1
answers_section cells n = omega (arith, flat_length single 1 (λ x. refl) (answers_in cells n), answers_long cells n)

pub steps_section : (found : Plan) (n : ℕ) → length (section step_entry (steps_in found n)) ≡ 2 * n + 1
steps_section found n = omega (arith, flat_length step_entry 2 (λ x. refl) (steps_in found n), steps_long found n)
