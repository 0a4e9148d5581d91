-- The elimination level by level: a pivot is passed, the pivots after it are eliminated and answered, and then it is answered.
use Rattle.std.specs.Prelude.{◌≡◌, refl, List, [], ◌∷◌, ◌++◌, ℕ, suc, ◌+◌, ◌-◌, ◌<◌, ◌≤◌, length, get_or, take, drop}
use Rattle.std.proofs.Common.{sym, ap, ◌∙◌, arith, add-one, drop-cons, get_or-take, length-take-le}
use Rattle.std.proofs.Math.Seq.{drop-length}
use Rattle.elimination.specs.Plan.{plan}
use Rattle.network.specs.Network.{side}
use Rattle.operations.specs.Worksheets.{Able, Carried, carried_none, carried_then, able_first, able_second}
use Rattle.operations.specs.declared.Worksheet.{Worksheet}
use Rattle.rows.specs.Row.{excluding, vertices_excluding}
use Rattle.rows.specs.Table.{near_row, near_are}
use Rattle.rows.specs.Gone.{eliminated, eliminated_long, eliminated_gone}
use Rattle.sheet.specs.Asks.{work}
use Rattle.sheet.specs.declared.Ask.{Ask}
use Rattle.solve.specs.Turns.{forward_in, backward_in, pivots_from, plan_from}

-- The links once pivots are eliminated in turn.
unfoldable pub links_after : List ℕ → List ℕ → List ℕ
links_after [] links = links
links_after (pivot ∷ pivots) links = links_after pivots (eliminated pivot links)

-- Every pivot of the order is a vertex, and there is a row for each vertex.
pub record Level (links order : List ℕ) (n k : ℕ) : Type 0 where
  pub few : n ≤ side
  pub within : k ≤ n
  pub linked : length links ≡ side
  pub listed : length order ≡ side
  pub vertex : (j : ℕ) → j < n → get_or order j 0 < side

module _ (links order : List ℕ) (n k : ℕ) (level : Level links order n k) where
  ordered : length (take n order) ≡ n
  ordered = length-take-le n order (omega (arith, level.few, level.listed))

  -- No pivot is left:
  no_pivots : k ≡ n → pivots_from order n k ≡ []
  no_pivots e = ap (λ (j : ℕ). drop j (take n order)) (e ∙ sym ordered) ∙ drop-length (take n order)

  -- nothing is to be done.
  pub level_none : (rest : ℕ) → k ≡ n → {w : Worksheet} {o : List ℕ} → Able (work (plan_from links rest order n k)) w o
      → Carried (plan_from links rest order n k) w o w o
  unfolding plan_from plan
  level_none rest e able = rw (no_pivots e) (carried_none able)

  pub level_same : k ≡ n → links ≡ links_after (pivots_from order n k) links
  unfolding links_after
  level_same e = rw (no_pivots e)

  -- A pivot is left, and it is a vertex.
  module _ (d : k ≡ n → ⊥) where
    level_some : k < n
    level_some = omega (arith, level.within)

    pub level_pivot : get_or order k 0 < side
    level_pivot = level.vertex k level_some

    next_pivot : pivots_from order n k ≡ get_or order k 0 ∷ pivots_from order n (k + 1)
    next_pivot =
        rw (add-one k)
        (drop-cons (take n order) k 0 (omega (arith, ordered, level_some))
        ∙ ap (λ (j : ℕ). j ∷ drop (suc k) (take n order)) (get_or-take n order k 0 level_some))

    -- Fewer are left afterwards,
    pub level_falls : (t : ℕ) → n - k ≡ t → n - (k + 1) < t
    level_falls t e = omega (arith, level_some)

    module _ (pivot : ℕ) (is : pivot ≡ get_or order k 0) (after : List ℕ) (gone : after ≡ eliminated pivot links) where
      -- and each is a vertex.
      pub level_next : Level after order n (k + 1)
      level_next =
          record {
            few = level.few;
            within = omega (arith, level_some);
            linked = rw gone (eliminated_long pivot links);
            listed = level.listed;
            vertex = level.vertex;
          }

      pub level_after : (exit : List ℕ) → exit ≡ links_after (pivots_from order n (k + 1)) after → exit ≡ links_after (pivots_from order n k) links
      unfolding links_after
      level_after exit e = rw (next_pivot, ← is) (rw gone at e)

      -- What is asked: the pivot passed, the others, and the pivot answered.
      module _ (rest near left : ℕ) (row : near ≡ near_row links rest pivot) (less : left ≡ excluding rest pivot) where
        first : List Ask
        first = forward_in links near n pivot

        middle : List Ask
        middle = plan_from after left order n (k + 1)

        last : List Ask
        last = backward_in near n pivot

        whole : plan_from links rest order n k ≡ first ++ (middle ++ last)
        unfolding plan_from plan forward_in backward_in first middle last
        whole =
            rw (next_pivot, ← is, gone, less, row, near_are links n rest pivot, vertices_excluding n rest pivot, eliminated_gone pivot links level.linked)

        module _ {w₀ : Worksheet} {o₀ : List ℕ} (able : Able (work (plan_from links rest order n k)) w₀ o₀) where
          first_ready : Able (work (forward_in links near n pivot)) w₀ o₀
          unfolding first
          first_ready = able_first first (middle ++ last) (rw whole at able)

          module _ {w₁ : Worksheet} {o₁ : List ℕ} (passed : Carried (forward_in links near n pivot) w₀ o₀ w₁ o₁) where
            rest_ready : Able (work (middle ++ last)) w₁ o₁
            unfolding first
            rest_ready = able_second first (middle ++ last) (rw whole at able) passed

            -- Once it is passed, the others can be eliminated and answered,
            pub level_ready : Able (work (plan_from after left order n (k + 1))) w₁ o₁
            unfolding middle
            level_ready = able_first middle last rest_ready

            module _ {w₂ : Worksheet} {o₂ : List ℕ} (answered : Carried (plan_from after left order n (k + 1)) w₁ o₁ w₂ o₂) where
              -- then it can be answered,
              pub level_last : Able (work (backward_in near n pivot)) w₂ o₂
              unfolding middle last
              level_last = able_second middle last rest_ready answered

              -- and that is all.
              pub level_done : {w₃ : Worksheet} {o₃ : List ℕ} → Carried (backward_in near n pivot) w₂ o₂ w₃ o₃
                  → Carried (plan_from links rest order n k) w₀ o₀ w₃ o₃
              unfolding first middle last
              level_done r = rw whole (carried_then first (middle ++ last) passed (carried_then middle last answered r))

    -- It can be passed.
    pub level_first : (pivot : ℕ) → pivot ≡ get_or order k 0 → (rest near : ℕ) → near ≡ near_row links rest pivot → {w : Worksheet} {o : List ℕ}
        → Able (work (plan_from links rest order n k)) w o → Able (work (forward_in links near n pivot)) w o
    level_first pivot is rest near row able =
        first_ready pivot is (eliminated pivot links) refl rest near (excluding rest pivot) row refl able
