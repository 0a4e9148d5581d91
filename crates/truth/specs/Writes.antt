-- Which cells a plan writes.
use Rattle.std.specs.Prelude.{◌≡◌, refl, ◌≢◌, true, false, ℕ, eqb}
use Rattle.std.proofs.Common.{ap, eqb-true}
use Rattle.std.proofs.Math.Logic.{Ne-symm, ⊎_elim}
use Rattle.std.proofs.Math.Bool.{So}
use Rattle.std.proofs.lemmas.Bool.{false≢true}
use mathlib.Core.List.Memᴰ
use mathlib.Core.List.{List, ◌∷◌, map, Memᴰ}
use Rattle.laws.specs.Flat.{flat_in, in_flat}
use Rattle.laws.specs.Tests.{both_true, by_test}
use Rattle.links.specs.Lists.{without}
use Rattle.links.specs.Links.{Graph, neighbours, gone}
use Rattle.links.specs.ListLaws.{without_in, in_without}
use Rattle.links.specs.OrderLaws.{TakesAll, none_left, taken}
use Rattle.sheet.specs.Asks.{ask, same_cell}
use Rattle.sheet.specs.declared.Ask.{Ask}
use Rattle.sheet.specs.declared.Cell.{Cell}
use Rattle.sheet.specs.declared.Cell.TheVariants.{Start, Label}
use Rattle.elimination.specs.Plan.{pass_start, pass_label, forward, backward, plan}
use Rattle.truth.specs.Carry.{Carrier, carry}
use Rattle.truth.specs.CarryLaws.{carry_leaves}
use Rattle.links.specs.Neighbours.{neighbours_in}

-- A cell of the vertices vs.
abbrev pub Within : List ℕ → Cell → Type 0
Within vs (Start v) = Memᴰ v vs
Within vs (Label u v) = Memᴰ u vs × Memᴰ v vs

within_more : {vs ws : List ℕ} → ((v : ℕ) → Memᴰ v vs → Memᴰ v ws) → (c : Cell) → Within vs c → Within ws c
within_more f (Start v) m = f v m
within_more f (Label u v) m = (f u m.0, f v m.1)

-- Cells that pass the test are equal.
pub same_cell_lem : (c d : Cell) → So (same_cell c d) → c ≡ d
unfolding same_cell
same_cell_lem (Start v) (Start w) s = ap Start (eqb-true v w s)
same_cell_lem (Start v) (Label x y) s = absurd (false≢true s)
same_cell_lem (Label u v) (Start w) s = absurd (false≢true s)
same_cell_lem (Label u v) (Label x y) s =
    let parts = both_true (eqb u x) (eqb v y) s in rw (eqb-true u x parts.0, eqb-true v y parts.1)

-- A cell of vs is another than one that is not of vs.
pub cells_apart : (vs : List ℕ) (c d : Cell) → Within vs c → ¬ Within vs d → same_cell c d ≡ false
cells_apart vs c d w n = by_test (same_cell c d) (λ s. absurd (n (rw (same_cell_lem c d s) at w))) (λ s. s)

-- What writes cells of vs alone leaves the others.
pub leaves_others : {X : Type 0} (k : Carrier X) (vs : List ℕ) (xs : List Ask) → ((x : Ask) → Memᴰ x xs → Within vs x.to)
    → (c : Cell) → ¬ Within vs c → (cells : Cell → X) → carry k xs cells c ≡ cells c
leaves_others k vs xs within c n = carry_leaves k c xs (λ x m. cells_apart vs x.to c (within x m) n)

-- What is asked of a cell when p is passed.
abbrev pub pass_to : Graph → ℕ → Cell → Ask
pass_to g p (Start v) = pass_start p v
pass_to g p (Label u v) = pass_label g p v u

module _ (g : Graph) (p : ℕ) (ns : List ℕ) where
  -- What a pass with the neighbours ns asks at v.
  turn : ℕ → List Ask
  turn v = pass_start p v ∷ map (pass_label g p v) (without v ns)

  -- A pass asks each start,
  pub start_in : (v : ℕ) → Memᴰ v ns → Memᴰ (pass_start p v) (forward g p ns)
  unfolding forward turn
  start_in v m = in_flat turn ns m (Memᴰ.head refl)

  -- and each label between two,
  pub label_in : (u v : ℕ) → Memᴰ u ns → Memᴰ v ns → u ≢ v → Memᴰ (pass_label g p v u) (forward g p ns)
  unfolding forward turn
  label_in u v m n d = in_flat turn ns n (Memᴰ.tail (Memᴰ.map (pass_label g p v) (in_without v ns m (Ne-symm d))))

  -- and nothing else.
  pub forward_in_lem : (x : Ask) → Memᴰ x (forward g p ns) → Within ns x.to × (x ≡ pass_to g p x.to)
  unfolding forward turn
  forward_in_lem x m =
      let w = flat_in turn ns m in
      ⊎_elim (λ e. rw e (w.1, refl))
      (λ k. let r = Memᴰ.of_map (pass_label g p w.0) (without w.0 ns) k in
      rw (← r.2) (((without_in w.0 ns r.1).0, w.1), refl))
      (Memᴰ.cases_cons w.2)

-- So these are cells of vertices that remain.
pub forward_within : (g : Graph) (vs : List ℕ) (p : ℕ) (x : Ask) → Memᴰ x (forward g p (neighbours g vs p)) → Within (without p vs) x.to
forward_within g vs p x m =
    within_more (λ v k. (neighbours_in g vs p k).0) x.to (forward_in_lem g p (neighbours g vs p) x m).0

-- A plan writes cells of the vertices that it takes.
pub plan_within : (g : Graph) {vs ps : List ℕ} → TakesAll vs ps → (x : Ask) → Memᴰ x (plan g vs ps) → Within vs x.to
unfolding plan backward
plan_within g none_left x m = absurd (Memᴰ.not-nil m)
plan_within g (taken {vs} {ps} p n rest) x m =
    let ns = neighbours g vs p in
    ⊎_elim (λ k. remains (forward_within g vs p x k))
    (λ l. ⊎_elim (λ k. remains (plan_within (gone p g) rest x k))
    (λ k. let r = Memᴰ.of_map (λ u. ask true (Start p) (Start u) (Label u p)) ns k in rw (← r.2) n)
    (Memᴰ.append_cases (plan (gone p g) (without p vs) ps) l))
    (Memᴰ.append_cases (forward g p ns) m)
  where
    remains : Within (without p vs) x.to → Within vs x.to
    remains = within_more (λ v h. (without_in p vs h).0) x.to
