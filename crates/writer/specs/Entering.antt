-- The loops that write a section entry by entry, and the ways out of the functions that write.
use Rattle.std.specs.Prelude.{◌≡◌, get_or, take, map}
use Rattle.std.proofs.Math.Path.{refl, ap, sym}
use Rattle.std.proofs.Common.{◌∙◌, arith, mul-zero, add-one, drop-cons, get_or-take, length-take-le, ext_get_or}
use Rattle.std.proofs.lemmas.List.{get_or-map, length-map, take-map}
use Rattle.std.proofs.lemmas.List.Folds.{flat_map-map}
use mathlib.Core.List.{List, [], ◌∷◌, ◌++◌, flat_map}
use Prim.Native.Nat.{ℕ, suc, ◌+◌, ◌*◌, ◌<◌, ◌≤◌}
use Rattle.std.proofs.Math.Nat.{mul-suc}
use Rattle.std.proofs.Math.ListN.{length, drop}
use Rattle.std.proofs.Math.Seq.{drop-length}
use Rattle.analysis.specs.Result.{section, single, step_entry}
use Rattle.form.specs.Numbers.{word_at, put_word, put_numbers}
use Rattle.form.specs.Writing.{numbers_length, numbers_append}
use Rattle.network.specs.Layout.{Layout, coil_place}
use Rattle.network.specs.Lists.{variable_at}
use Rattle.network.specs.Network.{side, network_of}
use Rattle.network.specs.declared.Sections.{Sections}
use Rattle.plan.specs.Plans.{none_taken}
use Rattle.plan.specs.declared.Plan.{Plan}
use Rattle.plan.specs.declared.Taken.{Taken}
use Rattle.sheet.specs.Cells.{cells_in, cell_at}
use Rattle.sheet.specs.declared.Cell.{Cell}
use Rattle.sheet.specs.declared.Cell.TheVariants.{Start}
use Rattle.links.specs.ListLaws.{vertex_at, vertices_long}
use Rattle.links.specs.Lists.{vertices}
use Rattle.writer.specs.Last.{answers_in, step_of, taken_entry, step_at, steps_in, figures_in, last_numbers, records_at, answers_at, steps_at, figures_at, Finished}
use Rattle.writer.specs.Lengths.{answers_section, steps_section}

-- The first k of n entries, of so many bytes each, are written from a place on: those that are left give the whole.
pub record Entering {A : Type 0} (entry : A → List ℕ) (size n : ℕ) (xs : List A) (at : ℕ) (before after : List ℕ) (k : ℕ) : Type 0 where
  pub within : k ≤ n
  pub count : length xs ≡ n
  pub long : length after ≡ length before
  pub left : put_numbers after (at + size * k) (flat_map entry (drop k xs)) ≡ put_numbers before at (flat_map entry xs)

module _ {A : Type 0} (entry : A → List ℕ) (size n : ℕ) (xs : List A) where
  pub entering_none : (at : ℕ) (before : List ℕ) → length xs ≡ n → Entering entry size n xs at before before 0
  entering_none at before e =
      let place : at + size * 0 ≡ at = omega (arith, mul-zero size) in
      record { within = omega arith; count = e; long = refl; left = rw place }

  pub entering_more : (at : ℕ) (before after : List ℕ) (k : ℕ) → Entering entry size n xs at before after k → k < n
      → (d x : A) → get_or xs k d ≡ x → 2 * length (entry x) ≡ size
      → (next : List ℕ) → next ≡ put_numbers after (at + size * k) (entry x) → Entering entry size n xs at before next (k + 1)
  unfolding flat_map
  entering_more at before after k inv h d x e l next w =
      let q : drop k xs ≡ x ∷ drop (suc k) xs = rw e at (drop-cons xs k d (omega (arith, inv.count))) in
      let place : at + size * k + 2 * length (entry x) ≡ at + size * suc k = rw mul-suc (omega arith) in
      let rest = numbers_append after (at + size * k) (entry x) (flat_map entry (drop (suc k) xs)) in
      record {
        within = omega arith;
        count = inv.count;
        long = rw w (numbers_length after (at + size * k) (entry x) ∙ inv.long);
        left = rw (add-one, w, ← place) (sym rest ∙ rw q at inv.left);
      }

  -- A section after its count.
  pub entering_done : (at : ℕ) (before counted after : List ℕ) (k : ℕ) → counted ≡ put_word before at n
      → Entering entry size n xs (at + 2) counted after k → n ≤ k → after ≡ put_numbers before at (section entry xs)
  unfolding put_numbers flat_map
  entering_done at before counted after k w inv h =
      let e : k ≡ length xs = omega (arith, inv.count, inv.within) in
      let all : after ≡ put_numbers (put_word before at n) (at + 2) (flat_map entry xs) = rw (e, drop-length xs, w) at inv.left in
      all ∙ ap (λ (c : ℕ). put_numbers before at (c ∷ flat_map entry xs)) (sym inv.count)

-- The loop of `write_variables`.
module _ (s : List ℕ) (parts : Sections) (layout : Layout s parts) (before : List ℕ) where
  pub variables_more : (after : List ℕ) (k : ℕ) → Entering single 2 parts.variables (network_of s).variables 2 before after k
      → k < parts.variables → (x : ℕ) → x ≡ word_at s (coil_place k) → (next : List ℕ) → next ≡ put_word after (2 + 2 * k) x
      → Entering single 2 parts.variables (network_of s).variables 2 before next (k + 1)
  unfolding put_numbers
  variables_more after k inv h x e next w =
      entering_more single 2 parts.variables (network_of s).variables 2 before after k inv h 0 x (variable_at layout k h ∙ sym e) refl next w

-- A step.
pub puts_step : (s t u : List ℕ) (at vertex degree : ℕ) → t ≡ put_word s at vertex → u ≡ put_word t (at + 2) degree
    → u ≡ put_numbers s at (vertex ∷ degree ∷ [])
unfolding put_numbers
puts_step s t u at vertex degree a b = cc

-- The figures.
pub puts_figures : (s t u v w : List ℕ) (at givens : ℕ) (found : Plan) → t ≡ put_word s at 3 → u ≡ put_word t (at + 2) givens
    → v ≡ put_word u (at + 4) found.joins → w ≡ put_word v (at + 6) found.work
    → w ≡ put_numbers s at (section single (figures_in givens found))
unfolding put_numbers figures_in flat_map
puts_figures s t u v w at givens found a b c d =
    let two : at + 2 + 2 ≡ at + 4 = omega arith in
    let three : at + 4 + 2 ≡ at + 6 = omega arith in
    rw (two, three) cc

-- The entries of the first n vertices are the first n of a list that has them.
first_are : {A : Type 0} (f : ℕ → A) (xs : List A) (d : A) (n : ℕ) → n ≤ length xs → ((k : ℕ) → k < n → get_or xs k d ≡ f k)
    → map f (vertices n) ≡ take n xs
first_are f xs d n h e =
    let l : length (take n xs) ≡ n = length-take-le n xs h in
    let m : length (map f (vertices n)) ≡ n = vertices_long f n in
    ext_get_or d (map f (vertices n)) (take n xs) (m ∙ sym l)
    (λ k i. let i : k < n = omega (arith, m) in vertex_at f n k d i ∙ sym (get_or-take n xs k d i ∙ e k i))

-- The answers are the first cells,
pub answers_first : (cells : List ℕ) (n : ℕ) → n ≤ side → n ≤ length cells → answers_in (cells_in cells) n ≡ take n cells
unfolding answers_in
answers_first cells n few h =
    first_are (λ v. cells_in cells (Start v)) cells 0 n h (λ v i. cell_at cells (Start v) (omega arith))

-- and the order the first steps of a plan.
pub steps_first : (found : Plan) (n : ℕ) → n ≤ length found.steps → steps_in found n ≡ map step_of (take n found.steps)
unfolding steps_in
steps_first found n h =
    first_are (step_at found) (map step_of found.steps) (step_of none_taken) n (omega (arith, length-map found.steps step_of))
    (λ k i. get_or-map step_of found.steps k none_taken _ (omega arith))
    ∙ take-map step_of n found.steps

-- The entries of steps as the program has them are those of the definition's.
pub taken_section : (taken : List Taken) → section taken_entry taken ≡ section step_entry (map step_of taken)
unfolding flat_map
taken_section taken = rw (length-map, flat_map-map step_entry step_of taken) refl

-- The parts of `finish`: each section is after the one before.
pub finished : (parts : Sections) (found : Plan) (cells : Cell → ℕ) (count : ℕ) (before counted answered stepped after : List ℕ)
    → counted ≡ put_word before (records_at parts) count
    → answered ≡ put_numbers counted (answers_at parts count) (section single (answers_in cells parts.vertices))
    → stepped ≡ put_numbers answered (steps_at parts count) (section step_entry (steps_in found parts.vertices))
    → after ≡ put_numbers stepped (figures_at parts count) (section single (figures_in parts.givens found))
    → Finished parts found cells count before after (figures_at parts count + 8)
unfolding last_numbers
finished parts found cells count before counted answered stepped after a b c d =
    let xs = section single (answers_in cells parts.vertices) in
    let ys = section step_entry (steps_in found parts.vertices) in
    let zs = section single (figures_in parts.givens found) in
    let one : answers_at parts count + 2 * length xs ≡ steps_at parts count = omega (arith, answers_section cells parts.vertices) in
    let two : steps_at parts count + 2 * length ys ≡ figures_at parts count = omega (arith, steps_section found parts.vertices) in
    let first = rw one at (numbers_append counted (answers_at parts count) xs (ys ++ zs)) in
    let second = rw two at (numbers_append answered (steps_at parts count) ys zs) in
    record { bytes = rw (← a, first, ← b, second, ← c) d; long = omega arith }
