-- What the given formulas of a network become means what they mean in the file.
use Rattle.std.specs.Prelude.{◌≡◌, refl, ℕ, ◌<◌, ◌≤◌, length, get_or}
use Rattle.std.proofs.Common.{sym, eq-or-lt_of_le, le-ltb, lt-ltb}
use Rattle.std.proofs.Math.Logic.{⊎_elim}
use mathlib.Core.List.{List, [], ◌∷◌, ◌++◌, append-nil}
use native.Mathlib.Omega.{arith}
use Rattle.std.proofs.Math.ListN.{length-append}
use Rattle.std.proofs.Math.Seq.{append_snoc, get_or-append_seam, take-append_seam}
use Rattle.std.proofs.lemmas.List.{get_or_at}
use Rattle.form.specs.References.{formula}
use Rattle.form.specs.declared.Record.{Record}
use Rattle.formula.specs.GivenLaws.{translate_take}
use Rattle.formula.specs.Givens.{Passed, unpassed, translate, pass_one, pass}
use Rattle.formula.specs.Make.{Outcome, none, make}
use Rattle.formula.specs.MakeLaws.{Orderly, Keeps}
use Rattle.formula.proofs.MakeLaws.{orderly_none, keeps_make}
use Rattle.formula.specs.Worth.{worth}
use Rattle.network.specs.Layout.{GivenIn}
use Rattle.network.specs.Network.{Network}
use Rattle.network.specs.Ranges.{second_in}
use Rattle.paths.specs.Paths.{worth_in}
use Rattle.analysis.specs.Wiring.{passed, translated}
use Rattle.meaning.specs.Made.{worth_kept, worth_next, worth_made}
use Rattle.meaning.specs.Ranged.{Ranged, defined}

-- Translating with one reference more.
module _ (p : ℕ) (references : List ℕ) (x : ℕ) where
  translate_before : (r : ℕ) → r < formula p (length references) → translate p (references ++ (x ∷ [])) r ≡ translate p references r
  translate_before r h = sym (rw (take-append_seam references (x ∷ [])) at (translate_take p (references ++ (x ∷ [])) r (length references) h))

  translate_next : translate p (references ++ (x ∷ [])) (formula p (length references)) ≡ x
  unfolding translate
  translate_next = rw (le-ltb (formula p (length references)) (formula p 0) (omega arith)) (get_or_at references x [] 0 _ (omega arith))

-- Reference q is there among the records, and is worth what r is by the given formulas.
record Means (p : ℕ) (givens records : List Record) (r q : ℕ) : Type 0 where
  pub there : q < formula p (length records)
  pub same : (setting : List ℕ) → length setting ≡ p → worth setting records q ≡ worth setting givens r

-- These given formulas have passed: each reference that they define has become one that means the same.
record Follows (p : ℕ) (givens : List Record) (st : Passed) : Type 0 where
  pub few : length st.records ≤ length givens
  pub long : length st.references ≡ length givens
  pub orderly : Orderly p st.records
  pub means : (r : ℕ) → r < formula p (length givens) → Means p givens st.records r (translate p st.references r)

-- None has passed.
follows_none : (p : ℕ) → Follows p [] unpassed
unfolding translate
follows_none p =
    record {
      few = omega arith;
      long = omega arith;
      orderly = orderly_none p;
      means = λ r h. rw (lt-ltb r (formula p 0) h) (record { there = h; same = λ setting sized. refl });
    }

-- One more passes, where its arguments are defined by those before.
module _ (p : ℕ) (front : List Record) (st : Passed) (inv : Follows p front st) (g : Record) (first : g.first < formula p (length front))
    (second : g.second < formula p (length front)) where
  abbrev o : Outcome
  o = make p g.kind (translate p st.references g.first) (translate p st.references g.second) st.records

  keeps : Keeps p 1 st.records o
  keeps = keeps_make p st.records inv.orderly g.kind _ _ (inv.means g.first first).there (inv.means g.second second).there

  before : (r q : ℕ) → r < formula p (length front) → Means p front st.records r q → Means p (front ++ (g ∷ [])) (st.records ++ o.added) r q
  before r q h m =
      record {
        there = omega (arith, m.there, length-append st.records o.added);
        same = λ setting sized.
            rw (worth_kept setting p sized front (g ∷ []) r h, ← m.same setting sized)
            (worth_kept setting p sized st.records o.added q m.there);
      }

  next : Means p (front ++ (g ∷ [])) (st.records ++ o.added) (formula p (length front)) o.reference
  next =
      let a = inv.means g.first first in
      let b = inv.means g.second second in
      record {
        there = omega (arith, keeps.below, length-append st.records o.added);
        same = λ setting sized.
            rw (worth_next setting p sized front g, ← a.same setting sized, ← b.same setting sized)
            (worth_made setting p sized st.records inv.orderly g.kind _ _ a.there b.there);
      }

  follows_one : Follows p (front ++ (g ∷ [])) (pass_one p g st)
  unfolding pass_one
  follows_one =
      let l = length-append front (g ∷ []) in
      let last = rw inv.long at (translate_next p st.references o.reference) in
      record {
        few = omega (arith, inv.few, keeps.few, length-append st.records o.added);
        long = omega (arith, inv.long, length-append st.references (o.reference ∷ []));
        orderly = keeps.orderly;
        means = λ r h.
            let m : r ≤ formula p (length front) = omega arith in
            ⊎_elim
            (λ e. rw e (rw last next))
            (λ b. rw (translate_before p st.references o.reference r (omega (arith, inv.long))) (before r _ b (inv.means r b)))
            (eq-or-lt_of_le m);
      }

-- The rest pass, one after another.
follows_all : (p : ℕ) (rest front : List Record) (st : Passed) → Follows p front st
    → ((k : ℕ) → k < length (front ++ rest) → GivenIn (formula p k) (get_or (front ++ rest) k none)) → Follows p (front ++ rest) (pass p rest st)
unfolding pass
follows_all p [] front st inv range = rw (append-nil front) inv
follows_all p (g ∷ gs) front st inv range =
    let own = formula p (length front) in
    let q : GivenIn own g = rw (get_or-append_seam front g gs none) at (range (length front) (omega (arith, length-append front (g ∷ gs)))) in
    let e : front ++ (g ∷ []) ++ gs ≡ front ++ g ∷ gs = append_snoc front g gs in
    rw e at
    (follows_all p gs (front ++ (g ∷ [])) (pass_one p g st) (follows_one p front st inv g q.first (second_in own g (omega arith) q)) (rw e range))

module _ (net : Network) (ranged : Ranged net) where
  follows : Follows (length net.variables) net.givens (passed net)
  unfolding passed
  follows = follows_all (length net.variables) net.givens [] unpassed (follows_none (length net.variables)) ranged.givens

  -- The records of the given formulas are in order,
  pub passed_orderly : Orderly (length net.variables) (passed net).records
  passed_orderly = follows.orderly

  -- and no more than these.
  pub passed_few : length (passed net).records ≤ length net.givens
  passed_few = follows.few

  -- What a reference of the file has become is there,
  pub translated_there : (r : ℕ) → r < defined net → translated net r < formula (length net.variables) (length (passed net).records)
  unfolding translated
  translated_there r h = (follows.means r h).there

  -- and is worth the same.
  pub translated_worth :
      (setting : List ℕ) → length setting ≡ length net.variables → (r : ℕ) → r < defined net →
      worth setting (passed net).records (translated net r) ≡ worth_in net setting r
  unfolding translated
  translated_worth setting sized r h = (follows.means r h).same setting sized
