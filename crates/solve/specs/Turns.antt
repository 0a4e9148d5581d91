-- The plan of a pivot as the code's loops go through it: a turn for each vertex, which asks for nothing where that is no neighbour.
use Rattle.std.specs.Prelude.{◌≡◌, refl, Bool, ℕ, eqb, drop, take}
use Rattle.std.proofs.Common.{ap, ◌∙◌}
use Rattle.std.proofs.Math.Bool.{true, not, cond}
use mathlib.Core.List.{List, [], ◌∷◌, ◌++◌, map, flat_map}
use Rattle.elimination.specs.Plan.{pass_start, pass_label, forward, backward, plan}
use Rattle.laws.specs.Tests.{by_test}
use Rattle.links.specs.Lists.{keep, without, vertices}
use Rattle.rows.specs.Row.{has, vertices_in}
use Rattle.rows.specs.Table.{links_in}
use Rattle.sheet.specs.Asks.{ask}
use Rattle.sheet.specs.declared.Ask.{Ask}
use Rattle.sheet.specs.declared.Cell.TheVariants.{Start, Label}

-- The label from u to v, where u is another of the neighbours in a row.
unfoldable pub label_turn : List ℕ → ℕ → ℕ → ℕ → ℕ → List Ask
label_turn links near pivot v u = cond (has near u) (cond (not (eqb v u)) (pass_label (links_in links) pivot v u ∷ []) []) []

-- The labels to v.
unfoldable pub labels_to : List ℕ → ℕ → ℕ → ℕ → ℕ → List Ask
labels_to links near n pivot v = map (pass_label (links_in links) pivot v) (without v (vertices_in n near))

-- The start of v and the labels to it, where v is a neighbour.
unfoldable pub neighbour_turn : List ℕ → ℕ → ℕ → ℕ → ℕ → List Ask
neighbour_turn links near n pivot v = cond (has near v) (pass_start pivot v ∷ labels_to links near n pivot v) []

-- All that leads over the pivot.
unfoldable pub forward_in : List ℕ → ℕ → ℕ → ℕ → List Ask
forward_in links near n pivot = forward (links_in links) pivot (vertices_in n near)

-- What leads from u to the pivot, where u is a neighbour.
unfoldable pub back_turn : ℕ → ℕ → ℕ → List Ask
back_turn near pivot u = cond (has near u) (ask true (Start pivot) (Start u) (Label u pivot) ∷ []) []

-- The answer of the pivot.
unfoldable pub backward_in : ℕ → ℕ → ℕ → List Ask
backward_in near n pivot = backward pivot (vertices_in n near)

-- The pivots from place k of an order on,
abbrev pub pivots_from : List ℕ → ℕ → ℕ → List ℕ
pivots_from order n k = drop k (take n order)

-- and their plan.
unfoldable pub plan_from : List ℕ → ℕ → List ℕ → ℕ → ℕ → List Ask
plan_from links rest order n k = plan (links_in links) (vertices_in n rest) (pivots_from order n k)

-- A turn for each is a turn for those that pass the test.
flat_keep : (t : ℕ → Bool) (f : ℕ → List Ask) (xs : List ℕ) → flat_map (λ x. cond (t x) (f x) []) xs ≡ flat_map f (keep t xs)
unfolding flat_map
flat_keep t f [] = refl
flat_keep t f (x ∷ xs) =
    let rest = flat_keep t f xs in
    by_test (t x) (λ e. rw e (ap (λ (l : List Ask). f x ++ l) rest)) (λ e. rw e rest)

-- One operation each is a list of operations.
flat_single : (f : ℕ → Ask) (xs : List ℕ) → flat_map (λ x. f x ∷ []) xs ≡ map f xs
unfolding flat_map
flat_single f [] = refl
flat_single f (x ∷ xs) = ap (λ (l : List Ask). f x ∷ l) (flat_single f xs)

-- The loops go through the plan.
module _ (near n pivot : ℕ) where
  pub labels_turns : (links : List ℕ) (v : ℕ) → flat_map (label_turn links near pivot v) (vertices n) ≡ labels_to links near n pivot v
  unfolding label_turn labels_to vertices_in
  labels_turns links v =
      flat_keep (has near) (λ u. cond (not (eqb v u)) (pass_label (links_in links) pivot v u ∷ []) []) (vertices n)
      ∙ flat_keep (λ u. not (eqb v u)) (λ u. pass_label (links_in links) pivot v u ∷ []) (keep (has near) (vertices n))
      ∙ flat_single (pass_label (links_in links) pivot v) (without v (keep (has near) (vertices n)))

  pub forward_turns : (links : List ℕ) → flat_map (neighbour_turn links near n pivot) (vertices n) ≡ forward_in links near n pivot
  unfolding neighbour_turn labels_to forward_in forward vertices_in
  forward_turns links = flat_keep (has near) (λ v. pass_start pivot v ∷ labels_to links near n pivot v) (vertices n)

  pub backward_turns : flat_map (back_turn near pivot) (vertices n) ≡ backward_in near n pivot
  unfolding back_turn backward_in backward vertices_in
  backward_turns =
      flat_keep (has near) (λ u. ask true (Start pivot) (Start u) (Label u pivot) ∷ []) (vertices n)
      ∙ flat_single (λ u. ask true (Start pivot) (Start u) (Label u pivot)) (keep (has near) (vertices n))
