-- What a stored result tells of each vertex, read off its own records (demand 2).
use Rattle.std.specs.Prelude.{◌≡◌, refl, ◌↔◌, Bool, List, ℕ, ◌<◌, get_or}
use Rattle.std.proofs.Math.Bool.{So}
use native.Mathlib.Omega.{arith}
use Rattle.std.proofs.Math.ListN.{length}
use Rattle.analysis.specs.Result.{eliminated, Stored, result_in}
use Rattle.formula.specs.Worth.{worth}
use Rattle.links.specs.Lists.{vertices}
use Rattle.links.specs.ListLaws.{up_to_bounds, vertex_at, vertices_long}
use Rattle.meaning.proofs.Answers.{answer_leads, answer_right}
use Rattle.meaning.specs.Ranged.{Ranged}
use Rattle.meaning.specs.Sheets.{worth_of}
use Rattle.meaning.specs.System.{system_of}
use Rattle.network.specs.Network.{Network}
use Rattle.paths.specs.Paths.{Reached}
use Rattle.sheet.specs.declared.Cell.TheVariants.{Start}
use Rattle.truth.specs.Solutions.{theorem_2}
use Rattle.truth.specs.Systems.{Solution}

-- The truth of vertex v under a setting: what its stored reference is worth by the stored records.
abbrev pub truth_in : Stored → List ℕ → ℕ → Bool
truth_in r setting v = worth setting r.records (get_or r.answers v 0)

-- Coils as given, and an answer for each vertex. Under every setting of the coils a vertex's truth is that of the path rule over the network's own
-- switches, and the truths are the solution of the network's system of equations.
pub record Truths (net : Network) (r : Stored) : Type 0 where
  pub coils : r.variables ≡ net.variables
  pub answers : length r.answers ≡ length net.starts
  pub paths : (setting : List ℕ) → length setting ≡ length net.variables → (v : ℕ) → v < length net.starts
      → So (truth_in r setting v) ↔ Reached net setting v
  pub solution : (setting : List ℕ) → length setting ≡ length net.variables
      → Solution (system_of net setting) (vertices (length net.starts)) (truth_in r setting)

module _ (net : Network) (ranged : Ranged net) where
  -- A result's truth is what the answer's cell is worth.
  truth_is : (setting : List ℕ) (v : ℕ) → v < length net.starts → truth_in (result_in net) setting v ≡ worth_of setting (eliminated net) (Start v)
  unfolding result_in worth_of
  truth_is setting v h = rw (vertex_at (λ u. (eliminated net).cells (Start u)) (length net.starts) v 0 h)

  -- The result of a network in range tells these.
  pub result_truths : Truths net (result_in net)
  unfolding result_in
  result_truths =
      record {
        coils = refl;
        answers = vertices_long (λ v. (eliminated net).cells (Start v)) (length net.starts);
        paths = λ setting sized v h. rw (truth_is setting v h) (answer_right net ranged setting sized v h);
        solution = λ setting sized.
            theorem_2 (system_of net setting) (vertices (length net.starts)) (truth_in (result_in net) setting)
            (λ v m. let b = up_to_bounds (length net.starts) 0 m in
            let h : v < length net.starts = omega arith in
            rw (truth_is setting v h) (answer_leads net ranged setting sized v h));
      }
