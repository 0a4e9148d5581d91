-- The cells of a sheet as the code holds them: an array with a start for each vertex, and then a row of labels for each.
use Rattle.std.specs.Prelude.{◌≡◌, refl, cond, List, ℕ, ◌+◌, ◌*◌, ◌-◌, ◌/◌, ◌%◌, ◌<◌, ltb, length, get_or, set}
use Rattle.std.proofs.Common.{sym, ap, ◌∙◌, arith, get_or-set_same, ext_get_or}
use Rattle.std.proofs.Math.Path.{fun_ext}
use Rattle.std.proofs.Math.Bool.{and-false}
use borrow.Author.Tests.{lt-ltb, ltb-true, ltb-false, eq-eqb, ne_eqb}
use Rattle.std.proofs.Math.Seq.{get_or-set_other}
use Rattle.laws.specs.Tests.{by_test, by_same}
use Rattle.network.specs.Network.{side}
use Rattle.sheet.specs.declared.Cell.{Cell}
use Rattle.sheet.specs.declared.Cell.TheVariants.{Start, Label}
use Rattle.sheet.specs.Asks.{same_cell}
use Rattle.sheet.specs.Perform.{set_cell}

-- How many cells there are.
abbrev pub cell_count : ℕ
cell_count = side + side * side

-- The place of a cell: the starts, then the labels from vertex 0, from vertex 1, ..
abbrev pub place_of : Cell → ℕ
place_of (Start v) = v
place_of (Label u v) = side + side * u + v

-- A cell of the array.
abbrev pub Inside : Cell → Type 0
Inside (Start v) = v < side
Inside (Label u v) = (u < side) × (v < side)

-- What each cell holds, and 0 beyond the array.
unfoldable pub cells_in : List ℕ → Cell → ℕ
cells_in cells (Start v) = cond (ltb v side) (get_or cells v 0) 0
cells_in cells (Label u v) = cond (ltb v side) (get_or cells (side + side * u + v) 0) 0

-- A cell is read at its place.
pub cell_at : (cells : List ℕ) (c : Cell) → Inside c → get_or cells (place_of c) 0 ≡ cells_in cells c
unfolding cells_in
cell_at cells (Start v) h = rw (lt-ltb v side h)
cell_at cells (Label u v) h = rw (lt-ltb v side h.1)

module _ (cells : List ℕ) (long : length cells ≡ cell_count) (r : ℕ) where
  start_set : (v : ℕ) → v < side → (c : Cell) → cells_in (set cells v r) c ≡ set_cell (Start v) r (cells_in cells) c
  unfolding cells_in set_cell same_cell
  start_set v h (Start w) =
      by_same v w
      (λ e. rw (← e, lt-ltb v side h, eq-eqb v v refl) (get_or-set_same cells v r 0 (omega arith)))
      (λ d. rw (ne_eqb v w d, get_or-set_other cells v w r 0 (λ e. d (sym e))))
  start_set v h (Label x y) = rw (get_or-set_other cells v (side + side * x + y) r 0 (omega arith))

  label_set : (u v : ℕ) → u < side → v < side → (c : Cell) → cells_in (set cells (side + side * u + v) r) c ≡ set_cell (Label u v) r (cells_in cells) c
  unfolding cells_in set_cell same_cell
  label_set u v hu hv (Start w) =
      by_test (ltb w side)
      (λ t. let l = ltb-true w side t in rw (get_or-set_other cells (side + side * u + v) w r 0 (omega arith)))
      (λ t. rw t)
  label_set u v hu hv (Label x y) =
      by_test (ltb y side)
      (λ t. let l = ltb-true y side t in
      by_same (side + side * x + y) (side + side * u + v)
      (λ e. rw (e, lt-ltb y side l, eq-eqb u x (omega arith), eq-eqb v y (omega arith)) (get_or-set_same cells (side + side * u + v) r 0 (omega arith)))
      (λ d. rw (get_or-set_other cells (side + side * u + v) (side + side * x + y) r 0 d)
      (by_same u x
      (λ e. rw (eq-eqb u x e, ne_eqb v y (λ q. d (omega arith))))
      (λ e. rw (ne_eqb u x e)))))
      (λ t. let l = ltb-false y side t in rw (t, ne_eqb v y (omega arith)) (rw and-false))

  -- A cell is written at its place.
  pub cell_set : (c : Cell) → Inside c → cells_in (set cells (place_of c) r) ≡ set_cell c r (cells_in cells)
  cell_set (Start v) h = fun_ext (start_set v h)
  cell_set (Label u v) h = fun_ext (label_set u v h.0 h.1)

-- What each cell holds determines the array.
module _ (x y : List ℕ) (e : cells_in x ≡ cells_in y) where
  same_place : (c : Cell) → Inside c → get_or x (place_of c) 0 ≡ get_or y (place_of c) 0
  same_place c i = cell_at x c i ∙ ap (λ (f : Cell → ℕ). f c) e ∙ sym (cell_at y c i)

  pub cells_unique : length x ≡ cell_count → length y ≡ cell_count → x ≡ y
  cells_unique l m =
      ext_get_or 0 x y (l ∙ sym m) (λ j h. by_test (ltb j side)
      (λ t. same_place (Start j) (ltb-true j side t))
      (λ t. let o = ltb-false j side t in
      let u = (j - side) / side in
      let v = (j - side) % side in
      let place : side + side * u + v ≡ j = omega arith in
      rw place at (same_place (Label u v) (omega arith, omega arith))))
