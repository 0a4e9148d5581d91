-- What an operation on references keeps: records stay in order, each of them needed, and the reference that is given is there. Absorption.
use Rattle.std.specs.Prelude.{◌≡◌, refl, not, cond, ◌||◌, List, [], ◌∷◌, ◌++◌, ltb, take}
use Rattle.std.proofs.Common.{sym, ap, ◌∙◌, append-nil, eq-or-lt_of_le, length-append}
use Rattle.std.proofs.Math.Bool.{true, false}
use Rattle.std.proofs.lemmas.Bool.{false≢true}
use Rattle.std.proofs.Math.Logic.{⊎_elim}
use Prim.Native.Nat.{ℕ, ◌-◌, ◌≤◌, ◌<◌}
use native.Mathlib.Omega.{arith}
use borrow.Author.Tests.{eqb-true, ne_eqb, ltb-true, ltb-false, le-leb, lt-leb, leb-false}
use Rattle.std.proofs.Math.Dec.{eqb, leb}
use Rattle.std.proofs.Math.ListN.{length, get_or, get_or-append}
use Rattle.std.proofs.lemmas.List.{get_or_at, take-append-le}
use Rattle.std.proofs.Math.Seq.{take-length}
use Rattle.laws.specs.Tests.{both_true, either_true, by_choice}
use Rattle.form.specs.References.{kind_and, kind_or, kind_not, constant_false, constant_true, formula}
use Rattle.form.specs.declared.Record.{Record}
use Rattle.formula.specs.Make.{Outcome, old, index_of, none, named, not_of, and_or, holds, absorbed, neutral, deciding, enter, negate, relate, combine, make}
use Rattle.formula.specs.MakeLaws.{Earlier, Needed, Orderly, Keeps}

-- No record is in order.
pub orderly_none : (p : ℕ) → Orderly p []
orderly_none p = record { earlier = λ k h. absurd (omega arith); needed = λ k h. absurd (omega arith) }

-- An and or an or record is a record, and no not record.
pub and_or_kind : (x : Record) → and_or x ≡ true → (eqb x.kind 0 ≡ false) × (eqb x.kind kind_not ≡ false)
and_or_kind x t =
    ⊎_elim
    (λ e. let k = eqb-true x.kind kind_and e in rw k (refl, refl))
    (λ e. let k = eqb-true x.kind kind_or e in rw k (refl, refl))
    (either_true (eqb x.kind kind_and) (eqb x.kind kind_or) t)

-- What absorption gives: that record where the kinds are alike, the argument where they are not.
pub absorbed_is : (P : ℕ → Type 0) (kind a b : ℕ) (x : Record) → (eqb kind kind_or ≡ eqb x.kind kind_or → P b)
    → (eqb kind kind_or ≡ not (eqb x.kind kind_or) → P a) → P (absorbed kind a b x)
absorbed_is P kind a b x alike unlike =
    by_choice P (eqb kind kind_or) _ _
    (λ s. by_choice P (eqb x.kind kind_or) b a (λ t. alike (s ∙ sym t)) (λ t. unlike (s ∙ ap not (sym t))))
    (λ s. by_choice P (eqb x.kind kind_or) a b (λ t. unlike (s ∙ ap not (sym t))) (λ t. alike (s ∙ sym t)))

module _ (p : ℕ) (records : List Record) (orderly : Orderly p records) where
  -- A reference that is there.
  pub keeps_old : (most r : ℕ) → r < formula p (length records) → Keeps p most records (old r)
  keeps_old most r h = record { few = omega arith; below = omega arith; orderly = rw (append-nil records) orderly }

  -- One record more, which is needed.
  orderly_more : (x : Record) → Earlier (formula p (length records)) x → Needed p records x → Orderly p (records ++ (x ∷ []))
  orderly_more x e n =
      record {
        earlier = λ k h. at (λ k y. Earlier (formula p k) y) e (λ k l. orderly.earlier k l) k (omega (arith, length-append records (x ∷ [])));
        needed = λ k h. front k (omega (arith, length-append records (x ∷ [])));
      }
    where
      at : (P : ℕ → Record → Type 0) → P (length records) x → ((k : ℕ) → k < length records → P k (get_or records k none)) → (k : ℕ)
          → k ≤ length records → P k (get_or (records ++ (x ∷ [])) k none)
      at P last before k h =
          ⊎_elim
          (λ q. rw (get_or_at records x [] none k (sym q), q) last)
          (λ l. rw (get_or-append records (x ∷ []) none k l) (before k l))
          (eq-or-lt_of_le h)

      front : (k : ℕ) → k ≤ length records → Needed p (take k (records ++ (x ∷ []))) (get_or (records ++ (x ∷ [])) k none)
      front k h =
          rw (take-append-le k records (x ∷ []) h)
          (at (λ k y. Needed p (take k records) y) (rw (take-length records) n) (λ k l. orderly.needed k l) k h)

  -- What making gives leaves the records in order.
  abbrev Kept : ℕ → ℕ → ℕ → Outcome → Type 0
  Kept kind a b o = make p kind a b records ≡ o → Keeps p 1 records o

  keeps_enter : (x : Record) → Earlier (formula p (length records)) x → Kept x.kind x.first x.second (enter p x records)
  unfolding enter
  keeps_enter x e =
      by_choice (Kept x.kind x.first x.second) (ltb (index_of records x) (length records)) _ _
      (λ t m. let h : index_of records x < length records = ltb-true _ _ t in keeps_old 1 (formula p (index_of records x)) (omega arith))
      (λ t m. record { few = omega arith; below = omega arith; orderly = orderly_more x e (ap (λ (o : Outcome). o.added) m) })

  -- The first argument of a record that is named is there.
  pub named_first : (a : ℕ) → a < formula p (length records) → (named p a records).first < formula p (length records)
  unfolding named
  named_first a h =
      by_choice (λ (x : Record). x.first < formula p (length records)) (ltb a (formula p 0)) _ _
      (λ t. omega arith)
      (λ t. let g : formula p 0 ≤ a = ltb-false _ _ t in let q = orderly.earlier (a - formula p 0) (omega arith) in omega (arith, q.first))

  -- A record that holds a stands after what a names: the smaller argument never holds the larger.
  pub held_before : (a b : ℕ) → b < formula p (length records) → holds a (named p b records) ≡ true → a < b
  unfolding named
  held_before a b hb =
      by_choice (λ (x : Record). holds a x ≡ true → a < b) (ltb b (formula p 0)) _ _
      (λ t e. absurd (false≢true e))
      (λ t e.
      let g : formula p 0 ≤ b = ltb-false _ _ t in
      let x = get_or records (b - formula p 0) none in
      let q = orderly.earlier (b - formula p 0) (omega arith) in
      ⊎_elim
      (λ f. omega (arith, q.first, eqb-true x.first a f))
      (λ f. omega (arith, q.second, eqb-true x.second a f))
      (either_true (eqb x.first a) (eqb x.second a) (both_true (and_or x) (eqb x.first a || eqb x.second a) e).1))

  -- So where one argument of and or or, no constant, is held by the record that the other names, it is absorbed, whichever comes first.
  pub absorbs : (kind a b : ℕ) → eqb kind kind_not ≡ false → constant_true < a → b < formula p (length records) → holds a (named p b records) ≡ true
      → let o = old (absorbed kind a b (named p b records)) in (make p kind a b records ≡ o) × (make p kind b a records ≡ o)
  unfolding make combine relate
  absorbs kind a b plain ha hb t =
      let x = named p b records in
      let h = held_before a b hb t in
      let k = and_or_kind x (both_true (and_or x) (eqb x.first a || eqb x.second a) t).0 in
      let straight : combine p kind a b records ≡ old (absorbed kind a b x) =
      rw (apart 0 1 (omega arith) (omega arith), apart 1 0 (omega arith) (omega arith), ne_eqb a b (λ e. omega arith), k.1, t) in
      (rw (plain, le-leb a b (omega arith)) straight, rw (plain, lt-leb b a h) straight)
    where
      apart : (i j : ℕ) → i < a → j < a → eqb a (cond (eqb kind kind_or) i j) ≡ false
      apart i j hi hj =
          by_choice (λ (k : ℕ). eqb a k ≡ false) (eqb kind kind_or) i j (λ _. ne_eqb a i (λ e. omega arith)) (λ _. ne_eqb a j (λ e. omega arith))

  module _ (a b : ℕ) (ha : a < formula p (length records)) (hb : b < formula p (length records)) where
    keeps_relate : (kind : ℕ) → Kept kind a b (relate p kind a b records)
    unfolding relate
    keeps_relate kind =
        let x = named p b records in
        by_choice (Kept kind a b) (not_of a x) _ _
        (λ t m. keeps_old 1 (deciding kind) (by_choice There (eqb kind kind_or) constant_true constant_false (λ t. omega arith) (λ t. omega arith)))
        (λ t. by_choice (Kept kind a b) (holds a x) _ _
        (λ t m. keeps_old 1 (absorbed kind a b x) (absorbed_is There kind a b x (λ _. hb) (λ _. ha)))
        (λ t. keeps_enter (record { kind = kind; first = a; second = b }) (record { first = ha; second = hb })))
      where
        There : ℕ → Type 0
        There i = i < formula p (length records)

    keeps_combine : (kind : ℕ) → Kept kind a b (combine p kind a b records)
    unfolding combine
    keeps_combine kind =
        by_choice (Kept kind a b) (eqb a (neutral kind)) _ _ (λ t m. keeps_old 1 b hb)
        (λ t. by_choice (Kept kind a b) (eqb a (deciding kind)) _ _ (λ t m. keeps_old 1 a ha)
        (λ t. by_choice (Kept kind a b) (eqb a b) _ _ (λ t m. keeps_old 1 a ha) (λ t. keeps_relate kind)))

    keeps_negate : Kept kind_not a 0 (negate p a records)
    unfolding negate
    keeps_negate =
        by_choice (Kept kind_not a 0) (eqb a constant_false) _ _ (λ t m. keeps_old 1 constant_true (omega arith))
        (λ t. by_choice (Kept kind_not a 0) (eqb a constant_true) _ _ (λ t m. keeps_old 1 constant_false (omega arith))
        (λ t. by_choice (Kept kind_not a 0) (eqb (named p a records).kind kind_not) _ _
        (λ t m. keeps_old 1 (named p a records).first (named_first a ha))
        (λ t. keeps_enter (record { kind = kind_not; first = a; second = 0 }) (record { first = ha; second = omega arith }))))

  -- Making.
  pub keeps_make :
      (kind a b : ℕ) → a < formula p (length records) → b < formula p (length records) → Keeps p 1 records (make p kind a b records)
  unfolding make
  keeps_make kind a b ha hb =
      by_choice (Keeps p 1 records) (eqb kind kind_not) _ _ (λ t. keeps_negate a b ha hb refl)
      (λ t. by_choice (Keeps p 1 records) (leb a b) _ _
      (λ l. keeps_combine a b ha hb kind (rw (t, l)))
      (λ l. let m : leb b a ≡ true = le-leb b a (omega (arith, leb-false a b l)) in keeps_combine b a hb ha kind (rw (t, m))))
