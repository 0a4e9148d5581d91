-- A label that is set or joined: what it keeps, and what it means.
use Rattle.std.specs.Prelude.{◌≡◌, Bool, cond, ◌&&◌, ◌||◌, ℕ, ◌+◌, ◌<◌, length}
use Rattle.std.proofs.Math.Path.{ap}
use Rattle.std.proofs.Common.{◌∙◌, arith, length-append}
use Rattle.std.proofs.Math.Bool.{true, false}
use mathlib.Core.List.{List, ◌++◌, append_assoc}
use Rattle.analysis.specs.Wiring.{passed, translated, set_or_join}
use Rattle.form.specs.References.{kind_or, formula}
use Rattle.form.specs.declared.Record.{Record}
use Rattle.formula.specs.Make.{Outcome, old, make}
use Rattle.formula.specs.MakeLaws.{Keeps}
use Rattle.formula.specs.Worth.{worth}
use Rattle.formula.specs.WorthLaws.{operate_or}
use Rattle.links.specs.Links.{Graph}
use Rattle.network.specs.Network.{Network}
use Rattle.paths.specs.Paths.{worth_in}
use Rattle.sheet.specs.Perform.{Sheet, set_cell, put}
use Rattle.sheet.specs.PerformLaws.{keeps_label}
use Rattle.sheet.specs.declared.Cell.{Cell}
use Rattle.sheet.specs.declared.Cell.TheVariants.{Label}
use Rattle.meaning.specs.Made.{worth_kept, worth_old, worth_made}
use Rattle.meaning.specs.Passed.{translated_there, translated_worth}
use Rattle.meaning.specs.Ranged.{Ranged, defined}
use Rattle.meaning.specs.SheetLaws.{put_standing, put_worth}
use Rattle.meaning.specs.Sheets.{worth_of, Standing}

-- While switches are wired: the sheet stands, and its records are those of the given formulas and more.
pub record Wiring (net : Network) (most : ℕ) (st : Sheet) : Type 0 where
  pub standing : Standing (length net.variables) most st
  pub more : List Record
  pub records : st.records ≡ (passed net).records ++ more

module _ (net : Network) (ranged : Ranged net) (most : ℕ) (st : Sheet) (is : Wiring net most st) (x : ℕ) (h : x < defined net) where
  -- A reference of the file, translated, is there,
  label_there : translated net x < formula (length net.variables) (length st.records)
  label_there = omega (arith, translated_there net ranged x h, ap length is.records, length-append (passed net).records is.more)

  -- and is worth what it is in the file.
  worth_there : (setting : List ℕ) → length setting ≡ length net.variables → worth setting st.records (translated net x) ≡ worth_in net setting x
  worth_there setting sized =
      rw is.records
      (worth_kept setting (length net.variables) sized (passed net).records is.more (translated net x) (translated_there net ranged x h)
      ∙ translated_worth net ranged setting sized x h)

  module _ (g : Graph) (u v : ℕ) where
    -- What goes into a label,
    outcome : Outcome
    outcome = cond (g u v) (make (length net.variables) kind_or (st.cells (Label u v)) (translated net x) st.records) (old (translated net x))

    outcome_keeps : Keeps (length net.variables) (cond (g u v) 1 0) st.records outcome
    unfolding outcome
    outcome_keeps =
        keeps_label (length net.variables) st.records is.standing.orderly _ _ (is.standing.there (Label u v)) label_there (g u v)

    -- keeps the sheet,
    pub set_wiring : Wiring net (most + cond (g u v) 1 0) (set_or_join (length net.variables) g u v (translated net x) st)
    unfolding set_or_join put outcome
    set_wiring =
        record {
          standing = put_standing (length net.variables) most st is.standing (cond (g u v) 1 0) (Label u v) outcome outcome_keeps;
          more = is.more ++ outcome.added;
          records = ap (λ (rs : List Record). rs ++ outcome.added) is.records ∙ append_assoc (passed net).records is.more outcome.added;
        }

    module _ (setting : List ℕ) (sized : length setting ≡ length net.variables) where
      outcome_worth : (t : Bool) → let p = length net.variables in
          let o = cond t (make p kind_or (st.cells (Label u v)) (translated net x) st.records) (old (translated net x)) in
          worth setting (st.records ++ o.added) o.reference ≡ (t && worth_of setting st (Label u v)) || worth_in net setting x
      unfolding worth_of
      outcome_worth true =
          worth_made setting (length net.variables) sized st.records is.standing.orderly kind_or _ _ (is.standing.there (Label u v))
          label_there
          ∙ operate_or _ _ ∙ rw (worth_there setting sized)
      outcome_worth false =
          worth_old setting (length net.variables) sized st.records (translated net x) label_there ∙ worth_there setting sized

      -- and is worth what the file's reference is, or what the label was where the pair had one.
      pub set_worth : (c : Cell) → worth_of setting (set_or_join (length net.variables) g u v (translated net x) st) c
          ≡ set_cell (Label u v) ((g u v && worth_of setting st (Label u v)) || worth_in net setting x) (worth_of setting st) c
      unfolding set_or_join outcome
      set_worth = put_worth (length net.variables) most st is.standing setting sized (Label u v) outcome _ (outcome_worth (g u v))
