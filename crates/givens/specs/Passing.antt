-- The given formulas of an accepted file pass through the rules one after another: each way out of the code, as a law.
use Rattle.std.proofs.Math.Path.{◌≡◌, sym, ap}
use Rattle.std.specs.Prelude.{refl, ℕ, suc, ◌+◌, ◌-◌, ◌≤◌, ◌<◌, ltb, set, replicate}
use Rattle.std.proofs.Common.{◌∙◌, add-one}
use mathlib.Core.List.{List, []}
use native.Mathlib.Omega.{arith}
use borrow.Author.Tests.{lt-ltb, le-ltb, ltb-true}
use Rattle.std.proofs.Math.ListN.{length, get_or, take, drop, length-set}
use Rattle.std.proofs.lemmas.List.{length-replicate}
use Rattle.std.proofs.Math.Seq.{drop-cons, drop-length, take-suc-set, get_or-set_other}
use Rattle.laws.specs.Tests.{by_choice}
use Rattle.laws.specs.Places.{at_zeros, set_below}
use Rattle.form.specs.References.{formula}
use Rattle.form.specs.declared.Record.{Record}
use Rattle.formula.specs.GivenLaws.{translate_take}
use Rattle.formula.specs.Givens.{Passed, translate, pass_one, pass}
use Rattle.network.specs.declared.Sections.{Sections}
use Rattle.network.specs.Network.{edition, entries_of, network_of}
use Rattle.network.specs.Layout.{Sound, GivenRead}
use Rattle.network.specs.Lists.{givens_length, given_at_lem}
use Rattle.network.specs.Ranges.{second_in}
use Rattle.records.specs.Gives.{Made, Makes}
use Rattle.records.specs.Bytes.{records_in}
use Rattle.records.specs.Grown.{Table, Grown, grown_none, grown_then, grown_made, made_below}
use Rattle.records.specs.Newest.{newest_none}
use Rattle.records.specs.declared.Records.{Records}
use Rattle.records.specs.Entered.{Noted, Empty, made, Entered}
use Rattle.form.specs.declared.Reference.{Reference}
use Rattle.givens.specs.Passed.{passed_of, make_given, Translatable, PassedIn}

-- A reference below the first given formula's stays, and any other is looked up.
module _ (p : ℕ) (references : List ℕ) (x : ℕ) where
  pub translate_low : x < 2 + p → x ≡ translate p references x
  unfolding translate
  translate_low h = rw (lt-ltb x (formula p 0) (omega arith))

  pub translate_high : 2 + p ≤ x → get_or references (x - (2 + p)) 0 ≡ translate p references x
  unfolding translate
  translate_high h =
      let e : x - formula p 0 ≡ x - (2 + p) = omega arith in
      rw (le-ltb x (formula p 0) (omega arith), e)

  -- Where each entry of the array is there, so is what a reference is translated to.
  translate_below : (count : ℕ) → ((j : ℕ) → get_or references j 0 < formula p count) → translate p references x < formula p count
  unfolding translate
  translate_below count h =
      by_choice (λ (r : ℕ). r < formula p count) (ltb x (formula p 0)) _ _
      (λ t. let l : x < formula p 0 = ltb-true _ _ t in omega arith)
      (λ t. h (x - formula p 0))

-- The first k given formulas have passed: what is left gives the whole, and each entry of the array is there.
pub record Passing (file : List ℕ) (parts : Sections) (base : ℕ) (entry references exit : List ℕ) (count k : ℕ) : Type 0 where
  pub within : k ≤ parts.givens
  pub left :
      pass parts.variables (drop k (network_of file).givens) (record { references = take k references; records = records_in exit base count })
      ≡ passed_of file parts
  pub grown : Grown parts.variables base k entry 0 exit count
  pub there : (j : ℕ) → get_or references j 0 < formula parts.variables count
  pub clear : (j : ℕ) → k ≤ j → get_or references j 0 ≡ 0
  pub long : length references ≡ edition.givens

module _ (file : List ℕ) (parts : Sections) (sound : Sound edition file parts) (base : ℕ) (entry : List ℕ)
    (table : Table parts.variables base parts.givens 0 entry) where
  pub passing_none : (references : List ℕ) → references ≡ replicate edition.givens 0 → Passing file parts base entry references entry 0 0
  unfolding records_in entries_of
  passing_none references e =
      record {
        within = omega arith;
        left = refl;
        grown = grown_none parts.variables base 0 entry table.orderly;
        there = λ j. rw e (omega (arith, at_zeros edition.givens j));
        clear = λ j h. rw e (at_zeros edition.givens j);
        long = rw e (length-replicate {A = ℕ} edition.givens 0);
      }

  module _ (references exit : List ℕ) (count k : ℕ) (inv : Passing file parts base entry references exit count k) where
    module _ (h : k < parts.givens) (g : Record) (read : GivenRead file parts k g) where
      second : g.second < formula parts.variables k
      second = second_in (formula parts.variables k) g (omega arith) read.range

      -- Given formula k can pass.
      pub passing_ready : Translatable parts.variables references count g
      passing_ready =
          record {
            variables = sound.within.variables;
            first = omega (arith, read.range.first, sound.within.givens);
            second = omega (arith, second, sound.within.givens);
            first_there = translate_below parts.variables references g.first count inv.there;
            second_there = translate_below parts.variables references g.second count inv.there;
          }

      module _ (after : List ℕ) (m : Made) (made : Makes (make_given parts.variables references g) base count exit after m) where
        -- The definition's step.
        step :
            pass_one parts.variables g (record { references = take k references; records = records_in exit base count })
            ≡ record { references = take (suc k) (set references k m.reference.number); records = records_in after base m.count }
        unfolding pass_one
        step =
            let a = translate_take parts.variables references g.first k read.range.first in
            let b = translate_take parts.variables references g.second k second in
            rw (a, b, take-suc-set references k m.reference.number (omega (arith, inv.long, sound.within.givens)), made.reference, made.records)

        -- The table has grown by one at most, and the reference is there.
        one : Grown parts.variables base 1 exit count after m.count
        one =
            grown_made parts.variables base g.kind _ _ inv.grown.orderly passing_ready.first_there passing_ready.second_there after m made

        new : m.reference.number < formula parts.variables m.count
        new =
            made_below parts.variables base g.kind _ _ inv.grown.orderly passing_ready.first_there passing_ready.second_there after m made

        -- Each entry of the array is there afterwards.
        there_more : (j : ℕ) → get_or (set references k m.reference.number) j 0 < formula parts.variables m.count
        there_more =
            set_below references k m.reference.number (formula parts.variables m.count) new (λ i. omega (arith, inv.there i, one.more))

        pub passing_more : Passing file parts base entry (set references k m.reference.number) after m.count (k + 1)
        unfolding pass
        passing_more =
            let gs = (network_of file).givens in
            let q : get_or gs k g ≡ g = given_at_lem sound.layout k g h ∙ sym read.is in
            let d = drop-cons gs k g (omega (arith, givens_length sound.layout)) in
            record {
              within = omega arith;
              left = rw (add-one, ← step) (rw (d, q) at inv.left);
              grown = grown_then parts.variables base k 1 inv.grown one;
              there = there_more;
              clear = λ j l. get_or-set_other references k j m.reference.number 0 (omega arith) ∙ inv.clear j (omega arith);
              long = length-set references k m.reference.number ∙ inv.long;
            }

    pub passing_all : parts.givens ≤ k → PassedIn file parts base entry references exit count
    unfolding pass
    passing_all h =
        let p = parts.variables in
        let gs = (network_of file).givens in
        let e : k ≡ length gs = omega (arith, givens_length sound.layout, inv.within) in
        let n : k ≡ parts.givens = omega (arith, inv.within) in
        let z : drop k gs ≡ [] = rw (e, drop-length gs) in
        let whole : ◌≡◌ {A = Passed} (record { references = take parts.givens references; records = records_in exit base count }) (passed_of file parts) =
        rw (z, n) at inv.left in
        record {
          grown = rw n at inv.grown;
          became = ap (λ (st : Passed). st.references) (sym whole);
          records = ap (λ (st : Passed). st.records) whole;
          translates = λ x l. rw (← whole) (sym (translate_take p references x parts.givens l));
          below = λ x. translate_below p references x count inv.there;
          clear = λ j l. inv.clear j (omega arith);
          long = inv.long;
        }

-- The same of the program's table of records, which lies where it was; the newest records are noted.
pub record PassingIn (file : List ℕ) (parts : Sections) (t₀ : Records) (entry references : List ℕ) (t : Records) (exit : List ℕ) (k : ℕ)
    : Type 0 where
  pub passing : Passing file parts t₀.base entry references exit t.count k
  pub noted : Noted t exit
  pub base : t.base ≡ t₀.base
  pub variables : t.variables ≡ parts.variables

module _ (file : List ℕ) (parts : Sections) (sound : Sound edition file parts) (t₀ : Records) (entry : List ℕ)
    (table : Table parts.variables t₀.base parts.givens 0 entry) where
  pub passing_in_none : Empty parts.variables t₀ → (references : List ℕ) → references ≡ replicate edition.givens 0
      → PassingIn file parts t₀ entry references t₀ entry 0
  passing_in_none empty references e =
      record {
        passing = rw empty.count (passing_none file parts sound t₀.base entry table references e);
        noted = rw empty.count (newest_none entry t₀.base t₀.newest empty.newest);
        base = refl;
        variables = empty.variables;
      }

  module _ (references : List ℕ) (t : Records) (exit : List ℕ) (k : ℕ) (inv : PassingIn file parts t₀ entry references t exit k) where
    module _ (h : k < parts.givens) (g : Record) (read : GivenRead file parts k g) where
      -- Given formula k can pass,
      pub passing_translatable : Translatable t.variables references t.count g
      passing_translatable =
          rw inv.variables (passing_ready file parts sound t₀.base entry table references exit t.count k inv.passing h g read)

      -- and has passed.
      pub passing_in_more : (t' : Records) (after : List ℕ) (r : Reference)
          → Entered (make_given t.variables references g) t exit t' after r
          → PassingIn file parts t₀ entry (set references k r.number) t' after (k + 1)
      passing_in_more t' after r x =
          let makes : Makes (make_given parts.variables references g) t₀.base t.count exit after (made r t') = rw (inv.variables, inv.base) at x.makes in
          record {
            passing = passing_more file parts sound t₀.base entry table references exit t.count k inv.passing h g read after (made r t') makes;
            noted = x.noted;
            base = x.base ∙ inv.base;
            variables = x.variables ∙ inv.variables;
          }

    pub passing_in_all : parts.givens ≤ k → PassedIn file parts t₀.base entry references exit t.count
    passing_in_all h = passing_all file parts sound t₀.base entry table references exit t.count k inv.passing h
