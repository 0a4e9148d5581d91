-- The labels of a switch: set where they are the first of their pair, and else joined.
use Rattle.std.specs.Prelude.{◌≡◌, Bool, true, false, cond, List, ℕ, ◌+◌, ◌<◌, get_or, set}
use Rattle.std.proofs.Math.Path.{refl, fun_ext}
use Rattle.std.proofs.Common.{sym, ◌∙◌, subst, arith}
use borrow.Author.Tests.{eq-eqb, ne_eqb}
use Rattle.laws.specs.Tests.{by_test}
use Rattle.form.specs.References.{kind_or, formula}
use Rattle.formula.specs.Make.{Outcome, old, make}
use Rattle.formula.specs.MakeLaws.{Keeps}
use Rattle.network.specs.Network.{side}
use Rattle.network.specs.declared.Switch.{Switch}
use Rattle.records.specs.Bytes.{records_in}
use Rattle.records.specs.Laws.{length_records}
use Rattle.records.specs.Gives.{Gives}
use Rattle.records.specs.Entered.{Noted, Usable, made, Entered}
use Rattle.records.specs.declared.Records.{Records}
use Rattle.form.specs.declared.Reference.{Reference}
use Rattle.records.specs.Rules.{gives_old}
use Rattle.records.specs.Grown.{grown_none, table_room}
use Rattle.links.specs.Links.{Graph}
use Rattle.links.specs.Switches.{joins_at}
use Rattle.links.specs.Symmetry.{Symmetric}
use Rattle.sheet.specs.Cells.{cells_in, place_of, cell_at}
use Rattle.sheet.specs.Perform.{Sheet}
use Rattle.sheet.specs.PerformLaws.{keeps_label}
use Rattle.sheet.specs.declared.Cell.TheVariants.{Label}
use Rattle.operations.specs.Runs.{sheet_in}
use Rattle.operations.specs.declared.Worksheet.{Worksheet}
use Rattle.operations.specs.Worksheets.{Able, Worked, able_less, able_after, worked_then}
use Rattle.operations.specs.Ways.{runs_put}
use Rattle.rows.specs.Row.{has}
use Rattle.rows.specs.Table.{links_in}
use Rattle.analysis.specs.Wiring.{set_or_join, labelled}

-- The joins at the label from u to v: one where the pair has a label.
abbrev pub join_at : Graph → ℕ → ℕ → ℕ
join_at g u v = cond (g u v) 1 0

-- Both labels can be set or joined.
pub record Labelling (g : Graph) (x : Switch) (w : Worksheet) (out : List ℕ) : Type 0 where
  pub first : x.first < side
  pub second : x.second < side
  pub there : x.there < formula w.records.variables w.records.count
  pub back : x.back < formula w.records.variables w.records.count
  pub symmetric : Symmetric g
  pub able : Able (joins_at x g) w out

-- The ways out of `set_or_join`.
module _ (links : List ℕ) (u v : ℕ) (hu : u < side) (hv : v < side) (w : Worksheet) (s : List ℕ) (able : Able (join_at (links_in links) u v) w s) where
  -- What goes into the label.
  outcome : ℕ → Sheet → Outcome
  outcome r st = cond (links_in links u v) (make w.records.variables kind_or (st.cells (Label u v)) r st.records) (old r)

  keeps : (r : ℕ) → r < formula w.records.variables w.records.count
      → Keeps w.records.variables (join_at (links_in links) u v) (records_in s w.records.base w.records.count)
      (outcome r (sheet_in w.cells s w.records.base w.records.count))
  unfolding sheet_in outcome
  keeps r hr =
      let t = w.records in
      let l = length_records s t.base t.count in
      let hw = able.ready.held.below (place_of (Label u v)) in
      keeps_label t.variables (records_in s t.base t.count) able.ready.table.orderly (cells_in w.cells (Label u v)) r
      (omega (arith, hw, cell_at w.cells (Label u v) (hu, hv))) (omega arith) (links_in links u v)

  -- What an outcome makes of the worksheet.
  label_worked : (r : ℕ) → r < formula w.records.variables w.records.count → (q : Records) (s' : List ℕ) (m : Reference)
      → Gives (outcome r (sheet_in w.cells s w.records.base w.records.count)) w.records.base w.records.count s s' (made m q)
      → Noted q s' → q.base ≡ w.records.base → q.variables ≡ w.records.variables
      → (w' : Worksheet) → w'.cells ≡ set w.cells (place_of (Label u v)) m.number → w'.records ≡ q
      → Worked (set_or_join w.records.variables (links_in links) u v r) (join_at (links_in links) u v) w s w' s'
  unfolding set_or_join sheet_in outcome
  label_worked r hr q s' m gives noted base variables w' put same =
      let t = w.records in
      record {
        runs = rw (put, same)
            (runs_put t.variables t.base (join_at (links_in links) u v) (outcome r) (Label u v) w.cells s s' t.count (made m q) (hu, hv)
            able.ready.held (keeps r hr) gives);
        noted = rw same noted;
        base = rw same base;
        variables = rw same variables;
      }

  module _ (t : Bool) (test : t ≡ has (get_or links u 0) v) where
    pub label_set : t ≡ false → (r : Reference) → r.number < formula w.records.variables w.records.count
        → (w' : Worksheet) → w'.cells ≡ set w.cells (place_of (Label u v)) r.number → w'.records ≡ w.records
        → Worked (set_or_join w.records.variables (links_in links) u v r.number) (join_at (links_in links) u v) w s w' s
    unfolding sheet_in outcome links_in
    label_set e r hr w' put same =
        let q = w.records in
        let gives : Gives (outcome r.number (sheet_in w.cells s q.base q.count)) q.base q.count s s (made r q) =
        rw (sym test ∙ e) (gives_old q.base q.count s (made r q) r.number refl refl) in
        label_worked r.number hr q s r gives able.noted refl refl w' put same

    module _ (e : t ≡ true) where
      pub label_usable : Usable w.records s
      unfolding links_in
      label_usable =
          record {
            room = table_room w.records.variables w.records.base 1 (omega arith) (rw (sym test ∙ e) at able.ready.table);
            noted = able.noted;
          }

      pub label_joined : (was r : ℕ) → was ≡ cells_in w.cells (Label u v) → r < formula w.records.variables w.records.count
          → (q : Records) (s' : List ℕ) (m : Reference) → Entered (make w.records.variables kind_or was r) w.records s q s' m
          → (w' : Worksheet) → w'.cells ≡ set w.cells (place_of (Label u v)) m.number → w'.records ≡ q
          → Worked (set_or_join w.records.variables (links_in links) u v r) (join_at (links_in links) u v) w s w' s'
      unfolding sheet_in outcome links_in
      label_joined was r ew hr q s' m x w' put same =
          let t = w.records in
          let gives : Gives (outcome r (sheet_in w.cells s t.base t.count)) t.base t.count s s' (made m q) =
          rw (sym test ∙ e) (rw ew at x.makes) in
          label_worked r hr q s' m gives x.noted x.base x.variables w' put same

-- The ways out of `set_labels`.
module _ (g : Graph) (x : Switch) {w : Worksheet} {o : List ℕ} (y : Labelling g x w o) where
  pub labelled_loop : x.first ≡ x.second → Worked (labelled w.records.variables g x) (joins_at x g) w o w o
  unfolding labelled joins_at
  labelled_loop e =
      let q = eq-eqb _ _ e in
      let t = w.records in
      record {
        runs = record { sheet = rw q; grown = rw q (grown_none t.variables t.base t.count o y.able.ready.table.orderly); held = y.able.ready.held };
        noted = y.able.noted;
        base = refl;
        variables = refl;
      }

  module _ (d : x.first ≡ x.second → ⊥) (u v : ℕ) (eu : u ≡ x.first) (ev : v ≡ x.second) where
    joins_both : joins_at x g ≡ join_at g u v + join_at g v u
    unfolding joins_at Symmetric
    joins_both =
        rw (eu, ev, ne_eqb _ _ d, y.symmetric x.second x.first)
        (by_test (g x.first x.second) (λ t. rw t) (λ t. rw t))

    pub there_able : Able (join_at g u v) w o
    there_able = able_less (joins_at x g) (join_at g u v) (omega (arith, joins_both)) y.able

    module _ {w₁ : Worksheet} {o₁ : List ℕ} (z : Worked (set_or_join w.records.variables g u v x.there) (join_at g u v) w o w₁ o₁) where
      pub back_able : Able (join_at g v u) w₁ o₁
      back_able = able_after (set_or_join w.records.variables g u v x.there) (join_at g u v) (join_at g v u) (rw joins_both at y.able) z

      pub labelled_both : {w₂ : Worksheet} {o₂ : List ℕ} → Worked (set_or_join w₁.records.variables g v u x.back) (join_at g v u) w₁ o₁ w₂ o₂
          → Worked (labelled w.records.variables g x) (joins_at x g) w o w₂ o₂
      unfolding labelled
      labelled_both {w₂ = w₂} {o₂ = o₂} back =
          let p = w.records.variables in
          let both : labelled p g x ≡ (λ st. set_or_join p g v u x.back (set_or_join p g u v x.there st)) =
          fun_ext (λ st. rw (eu, ev, ne_eqb _ _ d)) in
          let b = subst (λ (i : ℕ). Worked (set_or_join i g v u x.back) (join_at g v u) w₁ o₁ w₂ o₂) z.variables back in
          rw (joins_both, both) (worked_then (set_or_join p g u v x.there) (set_or_join p g v u x.back) (join_at g u v) (join_at g v u) z b)
