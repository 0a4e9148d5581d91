-- Each switch does to the meaning of a sheet's labels what it says.
use Rattle.std.specs.Prelude.{◌≡◌, refl, ◌≢◌, Bool, ◌&&◌, ◌||◌, List, ℕ, ◌+◌, length}
use Rattle.std.proofs.Math.Path.{sym}
use Rattle.std.proofs.Common.{◌∙◌, add-zero, arith}
use Rattle.std.proofs.Math.Bool.{cond, or-false, or-true}
use borrow.Author.Tests.{eq-eqb, ne_eqb}
use Rattle.analysis.specs.Wiring.{translated, set_or_join, labelled, translate_switch, wire}
use Rattle.laws.specs.Tests.{by_test, by_same, same_turned}
use Rattle.links.specs.Links.{Graph}
use Rattle.links.specs.Pairs.{pair_both, pair_other}
use Rattle.links.specs.Switches.{pair, link, joins_at}
use Rattle.links.specs.Symmetry.{Symmetric}
use Rattle.network.specs.Layout.{SwitchIn}
use Rattle.network.specs.Network.{Network}
use Rattle.network.specs.declared.Switch.{Switch}
use Rattle.paths.specs.Paths.{worth_in}
use Rattle.sheet.specs.Asks.{same_cell}
use Rattle.sheet.specs.Perform.{Sheet, set_cell}
use Rattle.sheet.specs.declared.Cell.{Cell}
use Rattle.sheet.specs.declared.Cell.TheVariants.{Start, Label}
use Rattle.meaning.specs.Labels.{Wiring, set_wiring, set_worth}
use Rattle.meaning.specs.Ranged.{Ranged, defined}
use Rattle.meaning.specs.Sheets.{worth_of}
use Rattle.meaning.specs.System.{signal}
use Rattle.meaning.specs.Switches.{Wires}

-- The label from a to b is the label from u to v where the pairs are the same.
pair_same : (a b u v : ℕ) → same_cell (Label a b) (Label u v) ≡ pair a b u v
unfolding same_cell
pair_same a b u v = rw (same_turned a u, same_turned b v)

label_set : (a b u v : ℕ) (x : Bool) (t : Cell → Bool) → set_cell (Label a b) x t (Label u v) ≡ cond (pair a b u v) x (t (Label u v))
unfolding set_cell
label_set a b u v x t = rw (pair_same a b u v)

-- A label with x joined from a to b, and y from b to a.
both_ways : (g : Graph) (t : ℕ → ℕ → Bool) (a b u v : ℕ) (x y : Bool) → a ≢ b
    → ((g u v || pair a b u v) || pair b a u v) && cond (pair b a u v) ((g b a && t b a) || y) (cond (pair a b u v) ((g a b && t a b) || x) (t u v))
    ≡ (g u v && t u v) || ((pair a b u v && x) || (pair b a u v && y))
both_ways g t a b u v x y d =
    by_test (pair a b u v)
    (λ p. let q = pair_both a b u v p in
    rw (p, pair_other b a u v (λ e f. d (sym q.0 ∙ e)), or-true, or-false) (rw (q.0, q.1)))
    (λ p. by_test (pair b a u v)
    (λ q. let e = pair_both b a u v q in rw (p, q, or-true) (rw (e.0, e.1)))
    (λ q. rw (p, q) (rw or-false (rw or-false (rw or-false)))))

module _ (net : Network) (ranged : Ranged net) (setting : List ℕ) (sized : length setting ≡ length net.variables) where
  module _ (most : ℕ) (st : Sheet) (is : Wiring net most st) (g : Graph) (w : Switch)
      (inside : SwitchIn (length net.starts) (defined net) w) (d : w.first ≢ w.second) where
    half : Sheet
    half = set_or_join (length net.variables) g w.first w.second (translated net w.there) st

    half_is : Wiring net (most + cond (g w.first w.second) 1 0) half
    unfolding half
    half_is = set_wiring net ranged most st is w.there inside.there g w.first w.second

    whole : wire net g w st ≡ set_or_join (length net.variables) g w.second w.first (translated net w.back) half
    unfolding wire labelled translate_switch translated half
    whole = rw (ne_eqb w.first w.second d)

    -- What each label means before the switch, half way, and afterwards.
    abbrev label : ℕ → ℕ → Bool
    label u v = worth_of setting st (Label u v)

    abbrev there : Bool
    there = worth_in net setting w.there

    abbrev back : Bool
    back = worth_in net setting w.back

    half_worth : (u v : ℕ) → worth_of setting half (Label u v)
        ≡ cond (pair w.first w.second u v) ((g w.first w.second && label w.first w.second) || there) (label u v)
    unfolding half
    half_worth u v =
        set_worth net ranged most st is w.there inside.there g w.first w.second setting sized (Label u v)
        ∙ label_set w.first w.second u v _ (worth_of setting st)

    whole_worth : (u v : ℕ) → worth_of setting (wire net g w st) (Label u v)
        ≡ cond (pair w.second w.first u v) ((g w.second w.first && label w.second w.first) || back) (worth_of setting half (Label u v))
    whole_worth u v =
        let e : worth_of setting half (Label w.second w.first) ≡ label w.second w.first =
        rw (half_worth w.second w.first, pair_other w.first w.second w.second w.first (λ p q. d q)) in
        rw (whole, ← e)
        (set_worth net ranged _ half half_is w.back inside.back g w.second w.first setting sized (Label u v)
        ∙ label_set w.second w.first u v _ (worth_of setting half))

    -- A switch adds its signal to the label of its pair.
    unequal_adds : (u v : ℕ)
        → link w g u v && worth_of setting (wire net g w st) (Label u v) ≡ (g u v && label u v) || signal (worth_in net setting) u v w
    unfolding link signal
    unequal_adds u v =
        rw (ne_eqb w.first w.second d, whole_worth u v, half_worth u v) (both_ways g label w.first w.second u v there back d)

    -- It makes a record for each join.
    unequal_wiring : Symmetric g → Wiring net (most + joins_at w g) (wire net g w st)
    unfolding Symmetric joins_at
    unequal_wiring symmetric =
        let e : (most + cond (g w.first w.second) 1 0) + cond (g w.second w.first) 1 0 ≡ most + cond (g w.first w.second) 2 0 =
        rw (symmetric w.second w.first) (by_test (g w.first w.second) (λ t. rw t (omega arith)) (λ t. rw t (omega arith))) in
        rw (ne_eqb w.first w.second d, ← e, whole) (set_wiring net ranged _ half half_is w.back inside.back g w.second w.first)

    unequal_start : (v : ℕ) → worth_of setting (wire net g w st) (Start v) ≡ worth_of setting st (Start v)
    unfolding half set_cell same_cell
    unequal_start v =
        rw whole
        (set_worth net ranged _ half half_is w.back inside.back g w.second w.first setting sized (Start v)
        ∙ set_worth net ranged most st is w.there inside.there g w.first w.second setting sized (Start v))

  -- Each switch does.
  pub wires : (g : Graph) → Symmetric g → (w : Switch) → SwitchIn (length net.starts) (defined net) w → (most : ℕ) (st : Sheet) → Wiring net most st
      → Wires net ranged setting sized g w most st (wire net g w st)
  unfolding wire labelled translate_switch link joins_at signal
  wires g symmetric w inside most st is =
      by_same w.first w.second
      (λ e. rw (eq-eqb w.first w.second e) (record {
        wiring = rw (eq-eqb w.first w.second e, add-zero) is;
        start = λ v. refl;
        label = λ u v n.
            rw (
              eq-eqb w.first w.second e,
              pair_other w.first w.second u v (λ p q. n (p ∙ e ∙ sym q)),
              pair_other w.second w.first u v (λ p q. n (p ∙ sym e ∙ sym q)),
              or-false,
            );
      }))
      (λ d. record {
        wiring = unequal_wiring most st is g w inside d symmetric;
        start = unequal_start most st is g w inside d;
        label = λ u v n. unequal_adds most st is g w inside d u v;
      })
