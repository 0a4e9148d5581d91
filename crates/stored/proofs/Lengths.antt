-- How long results are: where the bytes of one end, and that it takes no more than the room that is asked for it.
use Rattle.std.specs.Prelude.{◌≡◌, List, ◌++◌, ℕ, ◌+◌, ◌*◌, ◌≤◌, length}
use Rattle.std.proofs.Math.Path.{sym}
use Rattle.std.proofs.Common.{ap, ◌∙◌}
use native.Mathlib.Omega.{arith}
use Rattle.analysis.specs.Lengths.{numbers_long, result_long}
use Rattle.analysis.specs.Result.{Stored, result_in, result_numbers, result_of}
use Rattle.form.specs.Numbers.{word_at}
use Rattle.form.specs.Writing.{bytes_length}
use Rattle.meaning.proofs.Answers.{eliminated_standing}
use Rattle.meaning.specs.Ranged.{Ranged}
use Rattle.network.specs.Lists.{entries_length}
use Rattle.network.specs.Network.{Network, variable_size, given_size, vertex_size, variables_at, givens_at, vertices_at, given_at}
use Rattle.plan.specs.Measure.{operations, room_for}
use Rattle.stored.specs.Stored.{step_size, figure_size, order_at, figures_at, step_at, stored_of}
use Rattle.stored.proofs.StoredLaws.{stored_back}

-- It takes no more than the room.
pub result_within : (net : Network) → Ranged net → length (result_of net) ≤ room_for net
unfolding result_of room_for operations
result_within net ranged =
    omega (arith, bytes_length (result_numbers (result_in net)), result_long net, (eliminated_standing net ranged).few)

-- The counts that stand in a result's bytes are those of its lists.
module _ (s : List ℕ) where
  counts_are : (r : Stored) → stored_of s ≡ r
      → figures_at s ≡ 8 + 2 * length r.variables + 6 * length r.records + 2 * length r.answers + 4 * length r.order
  unfolding stored_of
  counts_are r e =
      let q = sym e in
      rw q (omega (
        arith,
        entries_length (word_at s) variable_size (variables_at + 2) (word_at s variables_at),
        entries_length (given_at s) given_size (givens_at s + 2) (word_at s (givens_at s)),
        entries_length (word_at s) vertex_size (vertices_at s + 2) (word_at s (vertices_at s)),
        entries_length (step_at s) step_size (order_at s + 2) (word_at s (order_at s)),
      ))

-- The figures, with their count, are its last eight bytes.
pub result_end_lem : (net : Network) (tail : List ℕ) → figures_at (result_of net ++ tail) + 8 ≡ length (result_of net)
unfolding result_of result_in
result_end_lem net tail =
    omega (
      arith,
      counts_are (result_of net ++ tail) (result_in net) (stored_back net tail),
      bytes_length (result_numbers (result_in net)),
      numbers_long (result_in net),
    )

-- There are three of them.
pub result_three : (net : Network) (tail : List ℕ) → word_at (result_of net ++ tail) (figures_at (result_of net ++ tail)) ≡ 3
unfolding stored_of result_in
result_three net tail =
    let s = result_of net ++ tail in
    sym (entries_length (word_at s) figure_size (figures_at s + 2) (word_at s (figures_at s))) ∙ ap (λ (r : Stored). length r.figures) (stored_back net tail)
