-- What the sheet means from which the elimination starts: the network's own system.
use Rattle.std.specs.Prelude.{◌≡◌, refl, ◌≢◌, Bool, ◌&&◌, ◌||◌, ℕ, ◌+◌, ◌<◌, ltb, length, get_or}
use Rattle.std.proofs.Math.Path.{sym, ap}
use Rattle.std.proofs.Common.{◌∙◌, add_assoc, ltb-true, ltb-false}
use Rattle.std.proofs.Math.Bool.{or-false, or_assoc}
use mathlib.Core.List.{List, [], ◌∷◌, Memᴰ, append-nil}
use Rattle.std.proofs.Math.Nat.{add-zero}
use native.Mathlib.Omega.{arith}
use Rattle.std.proofs.Math.ListN.{get_or-eq_default}
use Rattle.analysis.specs.Wiring.{passed, starting, wire, wire_all, wired}
use Rattle.form.specs.References.{formula}
use Rattle.laws.specs.Tests.{by_test}
use Rattle.links.specs.Links.{Graph}
use Rattle.links.specs.Lists.{vertices}
use Rattle.links.specs.Switches.{link, joins_at, links_from, joins_from, no_links, links_of, joins_of}
use Rattle.links.specs.Symmetry.{Symmetric, symmetric_none, symmetric_link}
use Rattle.network.specs.Layout.{SwitchIn}
use Rattle.network.specs.Network.{Network}
use Rattle.network.specs.declared.Switch.{Switch}
use Rattle.paths.specs.Paths.{worth_in}
use Rattle.sheet.specs.Perform.{Sheet}
use Rattle.sheet.specs.declared.Cell.{Cell}
use Rattle.sheet.specs.declared.Cell.TheVariants.{Start, Label}
use Rattle.meaning.specs.Labels.{Wiring}
use Rattle.meaning.specs.Passed.{passed_orderly, passed_few, translated_there, translated_worth}
use Rattle.meaning.specs.Ranged.{Ranged, defined}
use Rattle.meaning.specs.Sheets.{worth_of, Standing}
use Rattle.meaning.proofs.Switches.{wires}
use Rattle.meaning.specs.System.{signal, system_of}
use Rattle.truth.specs.Carry.{system_in}
use Rattle.truth.specs.Past.{Agree}
use Rattle.truth.specs.Systems.{any_of}

module _ (net : Network) (ranged : Ranged net) (setting : List ℕ) (sized : length setting ≡ length net.variables) where
  -- What all switches do, one after another.
  record WiresAll (g : Graph) (ws : List Switch) (most : ℕ) (st after : Sheet) : Type 0 where
    pub standing : Standing (length net.variables) (most + joins_from g ws) after
    pub start : (v : ℕ) → worth_of setting after (Start v) ≡ worth_of setting st (Start v)
    pub label : (u v : ℕ) → u ≢ v
        → links_from g ws u v && worth_of setting after (Label u v)
        ≡ (g u v && worth_of setting st (Label u v)) || any_of (signal (worth_in net setting) u v) ws

  wires_all : (ws : List Switch) → ((w : Switch) → Memᴰ w ws → SwitchIn (length net.starts) (defined net) w)
      → (g : Graph) → Symmetric g → (most : ℕ) (st : Sheet) → Wiring net most st → WiresAll g ws most st (wire_all net g ws st)
  unfolding wire_all links_from joins_from any_of
  wires_all [] inside g symmetric most st is = record { standing = rw add-zero is.standing; start = λ v. refl; label = λ u v n. rw or-false }
  wires_all (w ∷ ws) inside g symmetric most st is =
      let one = wires net ranged setting sized g symmetric w (inside w (Memᴰ.head refl)) most st is in
      let rest =
      wires_all ws (λ x m. inside x (Memᴰ.tail m)) (link w g) (symmetric_link w g symmetric) (most + joins_at w g) (wire net g w st)
      one.wiring in
      record {
        standing = rw (← add_assoc) rest.standing;
        start = λ v. rest.start v ∙ one.start v;
        label = λ u v n.
            rest.label u v n
            ∙ ap (λ (b : Bool). b || any_of (signal (worth_in net setting) u v) ws) (one.label u v n)
            ∙ or_assoc (g u v && worth_of setting st (Label u v)) (signal (worth_in net setting) u v w) (any_of (signal (worth_in net setting) u v) ws);
      }

  -- The sheet before the first switch.
  unwired : Sheet
  unwired = record { cells = starting net; records = (passed net).records }

  start_defined : (v : ℕ) → get_or net.starts v 0 < defined net
  start_defined v =
      by_test (ltb v (length net.starts))
      (λ t. ranged.starts v (ltb-true _ _ t))
      (λ t. rw (get_or-eq_default net.starts 0 {n = v} (ltb-false _ _ t)) (omega arith))

  unwired_start : (v : ℕ) → worth_of setting unwired (Start v) ≡ worth_in net setting (get_or net.starts v 0)
  unfolding unwired worth_of starting
  unwired_start v = translated_worth net ranged setting sized _ (start_defined v)

  unwired_there : (c : Cell) → starting net c < formula (length net.variables) (length (passed net).records)
  unfolding starting
  unwired_there (Start v) = translated_there net ranged _ (start_defined v)
  unwired_there (Label u v) = omega arith

  unwired_is : Wiring net (length net.givens) unwired
  unfolding unwired
  unwired_is =
      record {
        standing = record { few = passed_few net ranged; orderly = passed_orderly net ranged; there = unwired_there };
        more = [];
        records = sym (append-nil (passed net).records);
      }

  all : WiresAll no_links net.switches (length net.givens) unwired (wired net)
  unfolding wired unwired
  all = wires_all net.switches ranged.switches no_links symmetric_none (length net.givens) unwired unwired_is

  -- The cells say the network's own system.
  pub wired_agrees : Agree (vertices (length net.starts)) (system_in (links_of net.switches) (worth_of setting (wired net))) (system_of net setting)
  unfolding system_of links_of
  wired_agrees = record { starts = λ v m. all.start v ∙ unwired_start v; labels = λ u v m n d. all.label u v d }

-- The sheet stands, with a record at most for each given formula and each join. (Any list with a byte for each variable serves as the setting.)
pub wired_standing : (net : Network) → Ranged net → Standing (length net.variables) (length net.givens + joins_of net.switches) (wired net)
unfolding joins_of
wired_standing net ranged = (all net ranged net.variables refl).standing
