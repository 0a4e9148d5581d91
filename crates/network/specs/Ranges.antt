-- A file without a fault has every field in range.
use Rattle.std.specs.Prelude.{◌≡◌, refl, Bool, true, false, cond, not, ◌||◌, List, ℕ, zero, suc, ◌+◌, ◌-◌, ◌*◌, ◌<◌, ◌≤◌, eqb, length}
use Rattle.std.proofs.Common.{sym, mul-zero, mul-suc, add-zero, arith}
use Rattle.std.proofs.Math.Nat.{zero-add}
use borrow.Author.Tests.{lt-ltb, ltb-false, leb-false, eqb-true}
use Rattle.form.specs.Numbers.{word_at}
use Rattle.form.specs.References.{kind_not, formula}
use Rattle.form.specs.Refusals.{Verdict, fine, first_of, accepted}
use Rattle.form.specs.Verdicts.{if_fine, first_fine, accepts}
use Rattle.form.specs.declared.Record.{Record}
use Rattle.network.specs.declared.Limits.{Limits}
use Rattle.network.specs.declared.Sections.{Sections}
use Rattle.network.specs.Network.{after, end_at, given_at, switch_at}
use Rattle.network.specs.Faults.{cut_fault, count_fault, coil_fault, kind_fault, reference_fault, end_fault, trailing_fault, second_below, given_fault, vertex_fault, switch_fault, entries_fault, section_fault, network_fault}
use Rattle.network.specs.Layout.{sections_of, network_answer, GivenIn, SwitchIn, Sound}

-- One of three numbers.
one_of_three : (x : ℕ) (a b c : Bool) → (a ≡ true → x ≡ 1) → (b ≡ true → x ≡ 2) → (c ≡ true → x ≡ 3) → not (a || b || c) ≡ false → (1 ≤ x) × (x ≤ 3)
one_of_three x true b c f g h e = let i = f refl in (omega arith, omega arith)
one_of_three x false true c f g h e = let i = g refl in (omega arith, omega arith)
one_of_three x false false true f g h e = let i = h refl in (omega arith, omega arith)
one_of_three x false false false f g h e = let z : ◌≡◌ {A = ℕ} 0 1 = cc in absurd (omega arith)

-- A test that finds nothing.
module _ (s : List ℕ) where
  cut_fine : (size at : ℕ) → cut_fault size s at ≡ fine → at + size ≤ length s
  unfolding cut_fault
  cut_fine size at e = ltb-false _ _ (if_fine _ _ _ e)

  pub count_fine : (limit at : ℕ) → count_fault limit s at ≡ fine → word_at s at ≤ limit
  unfolding count_fault
  count_fine limit at e = ltb-false _ _ (if_fine _ _ _ e)

  reference_fine : (defined at : ℕ) → reference_fault defined s at ≡ fine → word_at s at < defined
  unfolding reference_fault
  reference_fine defined at e = leb-false _ _ (if_fine _ _ _ e)

  end_fine : (vertices at : ℕ) → end_fault vertices s at ≡ fine → word_at s at < vertices
  unfolding end_fault
  end_fine vertices at e = leb-false _ _ (if_fine _ _ _ e)

  coil_fine : (at k : ℕ) → 0 < k → coil_fault s at k ≡ fine → word_at s (at - 2) < word_at s at
  unfolding coil_fault
  coil_fine at k h e = leb-false _ _ (if_fine _ 3 at (rw (lt-ltb 0 k h) at e))

  kind_fine : (at : ℕ) → kind_fault s at ≡ fine → (1 ≤ word_at s at) × (word_at s at ≤ 3)
  unfolding kind_fault
  kind_fine at e =
      one_of_three (word_at s at) (eqb (word_at s at) 1) (eqb (word_at s at) 2) (eqb (word_at s at) 3) (eqb-true _ _) (eqb-true _ _) (eqb-true _ _) (if_fine _ _ _ e)

  trailing_fine : (at : ℕ) → trailing_fault s at ≡ fine → length s ≤ at
  unfolding trailing_fault
  trailing_fine at e = ltb-false _ _ (if_fine _ _ _ e)

  given_fine : (p at k : ℕ) → given_fault p s at k ≡ fine → GivenIn (formula p k) (given_at s at)
  unfolding given_fault
  given_fine p at k e =
      let h = first_fine _ _ e in
      let i = first_fine _ _ h.1 in
      record {
        low = (kind_fine _ h.0).0;
        high = (kind_fine _ h.0).1;
        first = reference_fine _ _ i.0;
        second = reference_fine _ _ i.1;
      }

  start_fine : (defined at k : ℕ) → vertex_fault defined s at k ≡ fine → word_at s at < defined
  unfolding vertex_fault
  start_fine defined at k e = reference_fine defined at e

  switch_fine : (vertices defined at k : ℕ) → switch_fault vertices defined s at k ≡ fine → SwitchIn vertices defined (switch_at s at)
  unfolding switch_fault
  switch_fine vertices defined at k e =
      let h = first_fine _ _ e in
      let i = first_fine _ _ h.1 in
      let j = first_fine _ _ i.1 in
      record {
        first = end_fine _ _ h.0;
        second = end_fine _ _ i.0;
        there = reference_fine _ _ j.0;
        back = reference_fine _ _ j.1;
      }

-- Entries with which nothing is wrong.
module _ (size : ℕ) (test : List ℕ → ℕ → ℕ → Verdict) (s : List ℕ) where
  -- The first is complete and passes its test, and so on:
  entry_first :
      (at k n : ℕ) →
      entries_fault size test s at k (suc n) ≡ fine →
      (at + size ≤ length s) × (test s at k ≡ fine) × (entries_fault size test s (at + size) (k + 1) n ≡ fine)
  unfolding entries_fault
  entry_first at k n e =
      let h = first_fine (cut_fault size s at) (first_of (test s at k) (entries_fault size test s (at + size) (k + 1) n)) e in
      let i = first_fine (test s at k) (entries_fault size test s (at + size) (k + 1) n) h.1 in
      (cut_fine s size at h.0, i.0, i.1)

  step_place : (at n : ℕ) → at + size * suc n ≡ (at + size) + size * n
  step_place at n = rw mul-suc (omega arith)

  -- each passes its test, at its place,
  entry_fine : (at k n : ℕ) → entries_fault size test s at k n ≡ fine → (j : ℕ) → j < n → test s (at + size * j) (k + j) ≡ fine
  entry_fine at k zero e j h = absurd (omega arith)
  entry_fine at k (suc n) e zero h = simp (mul-zero, add-zero) (entry_first at k n e).1
  entry_fine at k (suc n) e (suc j) h =
      let q : k + suc j ≡ (k + 1) + j = omega arith in
      rw (step_place at j, q) (entry_fine (at + size) (k + 1) n (entry_first at k n e).2 j (omega arith))

  -- and they end within the file.
  entries_end : (at k n : ℕ) → at ≤ length s → entries_fault size test s at k n ≡ fine → at + size * n ≤ length s
  entries_end at k zero h e = simp (mul-zero, add-zero) h
  entries_end at k (suc n) h e =
      let i = entry_first at k n e in rw (step_place at n) (entries_end (at + size) (k + 1) n i.0 i.2)

  -- What a section then has.
  pub record SectionIn (limit at : ℕ) : Type 0 where
    pub count : word_at s at ≤ limit
    pub inside : after size s at ≤ length s
    pub entry : (k : ℕ) → k < word_at s at → test s (at + 2 + size * k) k ≡ fine

  pub section_fine : (limit at : ℕ) → section_fault limit size test s at ≡ fine → SectionIn limit at
  unfolding section_fault
  section_fine limit at e =
      let h = first_fine _ _ e in
      let i = first_fine _ _ h.1 in
      record {
        count = count_fine s limit at i.0;
        inside = entries_end (at + 2) 0 (word_at s at) (cut_fine s 2 at h.0) i.1;
        entry = λ k l. rw zero-add at (entry_fine (at + 2) 0 (word_at s at) i.1 k l);
      }

-- The whole file.
pub in_range : (limits : Limits) (s : List ℕ) → network_fault limits s ≡ fine → Sound limits s (sections_of s)
unfolding network_fault
in_range limits s e =
    let h = first_fine _ _ e in
    let i = first_fine _ _ h.1 in
    let j = first_fine _ _ i.1 in
    let k = first_fine _ _ j.1 in
    let variables = section_fine _ _ _ _ _ h.0 in
    let givens = section_fine _ _ _ _ _ i.0 in
    let vertices = section_fine _ _ _ _ _ j.0 in
    let switches = section_fine _ _ _ _ _ k.0 in
    let last : length s ≤ end_at s = trailing_fine s (end_at s) k.1 in
    record {
      layout = record {
        sections = refl;
        givens_at_lem = refl;
        vertices_at_lem = refl;
        switches_at_lem = refl;
        whole = omega (arith, switches.inside);
        coil = λ n l.
            let p : 2 + 2 * (n + 1) - 2 ≡ 2 + 2 * n = omega arith in
            rw p at (coil_fine s _ (n + 1) (omega arith) (variables.entry (n + 1) l));
        given = λ n l. given_fine s _ _ n (givens.entry n l);
        start = λ n l. start_fine s _ _ n (vertices.entry n l);
        switch = λ n l. switch_fine s _ _ _ n (switches.entry n l);
      };
      within = record { variables = variables.count; givens = givens.count; vertices = vertices.count; switches = switches.count };
    }

-- What an answer that accepts tells its caller.
pub sound : (limits : Limits) (s : List ℕ) (parts : Sections) → accepted parts ≡ network_answer limits s → Sound limits s parts
sound limits s parts e =
    let h = accepts parts (sections_of s) (network_fault limits s) e in
    rw h.1 (in_range limits s (sym h.0))

-- The second argument of a given formula is below its reference too.
below_both : (t : Bool) (own x : ℕ) → 1 ≤ own → x < cond t 1 own → x < own
below_both true own x h l = omega arith
below_both false own x h l = l

pub second_in : (own : ℕ) (g : Record) → 1 ≤ own → GivenIn own g → g.second < own
unfolding second_below
second_in own g h r = below_both (eqb g.kind kind_not) own g.second h r.second
