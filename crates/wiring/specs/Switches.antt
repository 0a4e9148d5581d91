-- The switches of an accepted file, wired one by one.
use Rattle.std.specs.Prelude.{◌≡◌, List, ◌∷◌, ℕ, suc, ◌+◌, ◌≤◌, ◌<◌, get_or, drop, replicate}
use Rattle.std.proofs.Common.{sym, ◌∙◌, add-one, drop-cons}
use Rattle.std.proofs.Math.Path.{refl, fun_ext}
use native.Mathlib.Omega.{arith}
use Rattle.std.proofs.Math.ListN.{length}
use Rattle.std.proofs.lemmas.List.{length-replicate}
use Rattle.std.proofs.Math.Seq.{drop-length}
use Rattle.form.specs.References.{formula}
use Rattle.formula.specs.Givens.{translate}
use Rattle.network.specs.Network.{edition, side, network_of}
use Rattle.network.specs.Layout.{Sound, SwitchRead, defined_in}
use Rattle.network.specs.Lists.{variables_length, switches_length, switch_at_lem}
use Rattle.network.specs.declared.Sections.{Sections}
use Rattle.network.specs.declared.Switch.{Switch}
use Rattle.records.specs.Grown.{Grown, grown_none, grown_then}
use Rattle.links.specs.Links.{Graph}
use Rattle.links.specs.Switches.{link, joins_at, links_from, joins_from, no_links, links_of, joins_of}
use Rattle.links.specs.Symmetry.{Symmetric, symmetric_none, symmetric_link}
use Rattle.sheet.specs.Perform.{Sheet}
use Rattle.operations.specs.Runs.{sheet_in, Runs}
use Rattle.operations.specs.declared.Worksheet.{Worksheet}
use Rattle.operations.specs.Worksheets.{Able, Worked, able_less, able_after}
use Rattle.rows.specs.Table.{links_in, none_linked}
use Rattle.rows.specs.Connect.{Connects}
use Rattle.analysis.specs.Wiring.{translated, labelled, translate_switch, wire, wire_all}
use Rattle.wiring.specs.Labels.{Labelling}

-- The array translates the file's references to the result's, and each that it gives is there.
pub record Translating (file : List ℕ) (parts : Sections) (references : List ℕ) (count : ℕ) : Type 0 where
  pub is : (x : ℕ) → x < defined_in parts → translate parts.variables references x ≡ translated (network_of file) x
  pub below : (x : ℕ) → translate parts.variables references x < formula parts.variables count

-- A switch can be wired.
pub record Wirable (references : List ℕ) (w : Worksheet) (links out : List ℕ) (x : Switch) : Type 0 where
  pub variables : w.records.variables ≤ edition.variables
  pub first : x.first < side
  pub second : x.second < side
  pub there : x.there < formula w.records.variables edition.givens
  pub back : x.back < formula w.records.variables edition.givens
  pub below : (r : ℕ) → translate w.records.variables references r < formula w.records.variables w.records.count
  pub able : Able (joins_at x (links_in links)) w out
  pub symmetric : Symmetric (links_in links)
  pub long : length links ≡ side

-- The sheet has become what f makes of it, with so many records more at most, and these are the links.
pub record Wires (f : Sheet → Sheet) (most : ℕ) (g : Graph) (w : Worksheet) (out : List ℕ) (w' : Worksheet) (links' out' : List ℕ) : Type 0 where
  pub worked : Worked f most w out w' out'
  pub graph : links_in links' ≡ g
  pub long : length links' ≡ side

-- The ways out of `wire_switch`.
module _ (references : List ℕ) (w : Worksheet) (links out : List ℕ) (x : Switch) (y : Wirable references w links out x) where
  pub labelling_one : (there back : ℕ) → there ≡ translate w.records.variables references x.there
      → back ≡ translate w.records.variables references x.back
      → Labelling (links_in links) (record { first = x.first; second = x.second; there = there; back = back }) w out
  unfolding joins_at
  labelling_one there back et eb =
      record {
        first = y.first;
        second = y.second;
        there = omega (arith, et, y.below x.there);
        back = omega (arith, eb, y.below x.back);
        symmetric = y.symmetric;
        able = y.able;
      }

  pub wires_one : (there back : ℕ) → there ≡ translate w.records.variables references x.there
      → back ≡ translate w.records.variables references x.back → (w' : Worksheet) (out' : List ℕ)
      → Worked (labelled w.records.variables (links_in links) (record { first = x.first; second = x.second; there = there; back = back }))
      (joins_at (record { first = x.first; second = x.second; there = there; back = back }) (links_in links)) w out w' out'
      → (l : List ℕ) (r : ℕ) → Connects x links l r
      → Wires (labelled w.records.variables (links_in links) (translate_switch w.records.variables references x))
      (joins_at x (links_in links)) (link x (links_in links)) w out w' l out'
  unfolding joins_at translate_switch
  wires_one there back et eb w' out' worked l r connects =
      record { worked = rw (et, eb) at worked; graph = connects.graph; long = connects.long }

-- The first k switches have been wired: what is left gives the whole, and there is room for the joins that are left.
pub record Joining (file : List ℕ) (parts : Sections) (references : List ℕ) (w₀ : Worksheet) (o₀ : List ℕ) (k : ℕ) (w : Worksheet)
    (links out : List ℕ) : Type 0 where
  pub sound : Sound edition file parts
  pub within : k ≤ parts.switches
  pub left :
      wire_all (network_of file) (links_in links) (drop k (network_of file).switches) (sheet_in w.cells out w₀.records.base w.records.count)
      ≡ wire_all (network_of file) no_links (network_of file).switches (sheet_in w₀.cells o₀ w₀.records.base w₀.records.count)
  pub graph : links_from (links_in links) (drop k (network_of file).switches) ≡ links_of (network_of file).switches
  pub most : ℕ
  pub joins : most + joins_from (links_in links) (drop k (network_of file).switches) ≡ joins_of (network_of file).switches
  pub grown : Grown parts.variables w₀.records.base most o₀ w₀.records.count out w.records.count
  pub able : Able (joins_from (links_in links) (drop k (network_of file).switches)) w out
  pub base : w.records.base ≡ w₀.records.base
  pub kept : w.records.variables ≡ w₀.records.variables
  pub variables : w₀.records.variables ≡ parts.variables
  pub translates : Translating file parts references w.records.count
  pub symmetric : Symmetric (links_in links)
  pub long : length links ≡ side

module _ (file : List ℕ) (parts : Sections) (sound : Sound edition file parts) (k : ℕ) (x : Switch) (read : SwitchRead file parts k x) where
  -- What is left begins with switch k.
  begins : k < parts.switches → drop k (network_of file).switches ≡ x ∷ drop (suc k) (network_of file).switches
  begins h =
      let ws = (network_of file).switches in
      let e : get_or ws k x ≡ x = switch_at_lem sound.layout k x h ∙ sym read.is in
      rw e at (drop-cons ws k x (omega (arith, switches_length sound.layout)))

  joins_left : k < parts.switches → (g : Graph)
      → joins_from g (drop k (network_of file).switches) ≡ joins_at x g + joins_from (link x g) (drop (suc k) (network_of file).switches)
  unfolding joins_from
  joins_left h g = rw (begins h)

  -- Its labels, translated, are the definition's.
  step : (references : List ℕ) (n : ℕ) → Translating file parts references n → (g : Graph)
      → labelled parts.variables g (translate_switch parts.variables references x) ≡ wire (network_of file) g x
  unfolding translated translate_switch wire
  step references n t g =
      fun_ext (λ st. rw (t.is x.there read.range.there, t.is x.back read.range.back, ← variables_length sound.layout))

module _ (file : List ℕ) (parts : Sections) (references : List ℕ) (w₀ : Worksheet) (o₀ : List ℕ) where
  pub joining_none : Sound edition file parts → w₀.records.variables ≡ parts.variables → (links : List ℕ) → links ≡ replicate side 0
      → Translating file parts references w₀.records.count → Able (joins_of (network_of file).switches) w₀ o₀
      → Joining file parts references w₀ o₀ 0 w₀ links o₀
  unfolding links_of joins_of
  joining_none sound p links e t able =
      let g : links_in links ≡ no_links = rw e none_linked in
      record {
        sound = sound;
        within = omega arith;
        left = rw g;
        graph = rw g;
        most = 0;
        joins = rw g (omega arith);
        grown = rw p at (grown_none w₀.records.variables w₀.records.base w₀.records.count o₀ able.ready.table.orderly);
        able = rw g able;
        base = refl;
        kept = refl;
        variables = p;
        translates = t;
        symmetric = rw g symmetric_none;
        long = rw e (length-replicate {A = ℕ} side 0);
      }

  -- What a turn makes of the sheet comes first: it shows which switch is meant.
  pub joining_more : (k : ℕ) (x : Switch) (w : Worksheet) (links out : List ℕ) (w' : Worksheet) (l o : List ℕ)
      → Wires (labelled w.records.variables (links_in links) (translate_switch w.records.variables references x))
      (joins_at x (links_in links)) (link x (links_in links)) w out w' l o
      → Joining file parts references w₀ o₀ k w links out → k < parts.switches → SwitchRead file parts k x
      → Joining file parts references w₀ o₀ (k + 1) w' l o
  unfolding wire_all links_from
  joining_more k x w links out w' l o y inv h read =
      let p = parts.variables in
      let at = w₀.records.base in
      let g = links_in links in
      let left = joins_from (link x g) (drop (suc k) (network_of file).switches) in
      let b = begins file parts inv.sound k x read h in
      let j = joins_left file parts inv.sound k x read h g in
      let runs : Runs p at (labelled parts.variables g (translate_switch parts.variables references x)) (joins_at x g)
      w.cells out w.records.count w'.cells o w'.records.count = rw (inv.kept, inv.base, inv.variables) at y.worked.runs in
      record {
        sound = inv.sound;
        within = omega arith;
        left = rw (add-one, y.graph, runs.sheet, step file parts inv.sound k x read references w.records.count inv.translates g) (rw b at inv.left);
        graph = rw (add-one, y.graph) (rw b at inv.graph);
        most = inv.most + joins_at x g;
        joins = rw (add-one, y.graph) (omega (arith, inv.joins, j));
        grown = grown_then p at inv.most (joins_at x g) inv.grown runs.grown;
        able = rw (add-one, y.graph) (able_after _ (joins_at x g) left (rw j at inv.able) y.worked);
        base = y.worked.base ∙ inv.base;
        kept = y.worked.variables ∙ inv.kept;
        variables = inv.variables;
        translates = record { is = inv.translates.is; below = λ i. omega (arith, inv.translates.below i, runs.grown.more) };
        symmetric = rw y.graph (symmetric_link x g inv.symmetric);
        long = y.long;
      }

  module _ (k : ℕ) (w : Worksheet) (links out : List ℕ) (inv : Joining file parts references w₀ o₀ k w links out) where
    pub joining_turn : k < parts.switches → (x : Switch) → SwitchRead file parts k x → Wirable references w links out x
    joining_turn h x read =
        let within = inv.sound.within in
        let j = joins_left file parts inv.sound k x read h (links_in links) in
        let p : w.records.variables ≡ parts.variables = inv.kept ∙ inv.variables in
        record {
          variables = omega (arith, within.variables);
          first = omega (arith, read.range.first, within.vertices);
          second = omega (arith, read.range.second, within.vertices);
          there = omega (arith, read.range.there, within.givens);
          back = omega (arith, read.range.back, within.givens);
          below = rw p inv.translates.below;
          able = able_less _ (joins_at x (links_in links)) (omega (arith, j)) inv.able;
          symmetric = inv.symmetric;
          long = inv.long;
        }

    pub joining_all : parts.switches ≤ k
        → Wires (wire_all (network_of file) no_links (network_of file).switches) (joins_of (network_of file).switches)
        (links_of (network_of file).switches) w₀ o₀ w links out
    unfolding wire_all links_from joins_from
    joining_all h =
        let ws = (network_of file).switches in
        let e : k ≡ length ws = omega (arith, switches_length inv.sound.layout, inv.within) in
        let z : inv.most ≡ joins_of ws = let i = rw (e, drop-length ws) at inv.joins in omega arith in
        record {
          worked = record {
            runs = record { sheet = rw (e, drop-length ws) at inv.left; grown = rw inv.variables (rw z at inv.grown); held = rw inv.kept at inv.able.ready.held };
            noted = inv.able.noted;
            base = inv.base;
            variables = inv.kept;
          };
          graph = rw (e, drop-length ws) at inv.graph;
          long = inv.long;
        }
