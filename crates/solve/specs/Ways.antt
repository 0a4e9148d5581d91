-- The ways out of a turn of the loops that carry a pivot's plan out.
use Rattle.std.specs.Prelude.{◌≡◌, Bool, true, false, cond, List, [], ◌∷◌, ◌++◌, ℕ, ◌+◌, get_or}
use Rattle.std.proofs.Common.{sym, ◌∙◌, arith}
use borrow.Author.Tests.{eq-eqb, ne_eqb}
use Rattle.elimination.specs.Plan.{pass_start}
use Rattle.laws.specs.Tests.{by_choice}
use Rattle.operations.specs.Worksheets.{Able, Carried, able_less, able_one, carried_none, carried_then, able_first}
use Rattle.operations.specs.declared.Worksheet.{Worksheet}
use Rattle.rows.specs.Row.{has}
use Rattle.rows.specs.Table.{links_in}
use Rattle.sheet.specs.Asks.{ask, work}
use Rattle.sheet.specs.declared.Ask.{Ask}
use Rattle.sheet.specs.declared.Cell.TheVariants.{Start, Label}
use Rattle.solve.specs.Turns.{label_turn, labels_to, neighbour_turn, back_turn}

-- A turn at u, where t tells whether it is a neighbour.
module _ (near pivot u : ℕ) (t : Bool) (test : t ≡ has near u) {w : Worksheet} {o : List ℕ} where
  module _ (links : List ℕ) where
    -- The label from u to v.
    module _ (v : ℕ) (able : Able (work (label_turn links near pivot v u)) w o) where
      pub label_far : t ≡ false → Carried (label_turn links near pivot v u) w o w o
      unfolding label_turn
      label_far e = rw (sym test ∙ e) (carried_none able)

      pub label_self : t ≡ true → v ≡ u → Carried (label_turn links near pivot v u) w o w o
      unfolding label_turn
      label_self e q = rw (sym test ∙ e, eq-eqb v u q) (carried_none able)

      module _ (e : t ≡ true) (d : v ≡ u → ⊥) (linked : Bool) (is : linked ≡ has (get_or links u 0) v) where
        label_is : label_turn links near pivot v u ≡ ask linked (Label u v) (Label u pivot) (Label pivot v) ∷ []
        unfolding label_turn links_in
        label_is = rw (sym test ∙ e, ne_eqb v u d, is)

        pub label_ready : Able (cond linked 2 1) w o
        label_ready = able_one _ (rw label_is at able)

        pub label_ran : {w' : Worksheet} {o' : List ℕ} → Carried (ask linked (Label u v) (Label u pivot) (Label pivot v) ∷ []) w o w' o'
            → Carried (label_turn links near pivot v u) w o w' o'
        label_ran r = rw label_is r

    -- The start of u and the labels to it.
    module _ (n : ℕ) (able : Able (work (neighbour_turn links near n pivot u)) w o) where
      pub neighbour_far : t ≡ false → Carried (neighbour_turn links near n pivot u) w o w o
      unfolding neighbour_turn
      neighbour_far e = rw (sym test ∙ e) (carried_none able)

      module _ (e : t ≡ true) where
        neighbour_is : neighbour_turn links near n pivot u ≡ (pass_start pivot u ∷ []) ++ labels_to links near n pivot u
        unfolding neighbour_turn
        neighbour_is = rw (sym test ∙ e)

        pub start_ready : Able 2 w o
        start_ready = able_one _ (able_first (pass_start pivot u ∷ []) (labels_to links near n pivot u) (rw neighbour_is at able))

        -- There is room for the labels after an operation, whichever that is.
        pub labels_ready : (y : Ask) → Able (work (y ∷ []) + work (labels_to links near n pivot u)) w o
        unfolding work
        labels_ready y =
            let more = work (labels_to links near n pivot u) in
            by_choice (λ (k : ℕ). Able (k + 0 + more) w o) y.joined 2 1 (λ t. start) (λ t. able_less (2 + more) (1 + more) (omega arith) start)
          where
            start : Able (2 + work (labels_to links near n pivot u)) w o
            start = rw neighbour_is at able

        pub neighbour_ran : {w' w″ : Worksheet} {o' o″ : List ℕ} → Carried (pass_start pivot u ∷ []) w o w' o'
            → Carried (labels_to links near n pivot u) w' o' w″ o″ → Carried (neighbour_turn links near n pivot u) w o w″ o″
        neighbour_ran r s = rw neighbour_is (carried_then (pass_start pivot u ∷ []) (labels_to links near n pivot u) r s)

  -- The answer of the pivot, from u.
  module _ (able : Able (work (back_turn near pivot u)) w o) where
    pub back_far : t ≡ false → Carried (back_turn near pivot u) w o w o
    unfolding back_turn
    back_far e = rw (sym test ∙ e) (carried_none able)

    module _ (e : t ≡ true) where
      back_is : back_turn near pivot u ≡ ask true (Start pivot) (Start u) (Label u pivot) ∷ []
      unfolding back_turn
      back_is = rw (sym test ∙ e)

      pub back_ready : Able 2 w o
      back_ready = able_one _ (rw back_is at able)

      pub back_ran : {w' : Worksheet} {o' : List ℕ} → Carried (ask true (Start pivot) (Start u) (Label u pivot) ∷ []) w o w' o'
          → Carried (back_turn near pivot u) w o w' o'
      back_ran r = rw back_is r
