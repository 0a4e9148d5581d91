-- No two records are equal, since each is needed; so the newest that is the same as another is the first, and it stands after its arguments.
use Rattle.std.specs.Prelude.{◌≡◌, refl, true, false, ◌&&◌, ℕ, zero, suc, ◌≤◌, ◌<◌, eqb, leb, ltb, length, take}
use Rattle.std.proofs.Common.{sym, ◌∙◌, true≢false, arith, eqb-true, ltb-false, length-take-le, get_or-take}
use Rattle.std.proofs.Math.Path.{ap}
use mathlib.Core.List.{List, [], ◌∷◌}
use Rattle.std.proofs.Math.ListN.{get_or}
use Rattle.laws.specs.Tests.{both_true, by_test, by_choice}
use Rattle.form.specs.References.{kind_not, constant_false, constant_true, formula}
use Rattle.form.specs.declared.Record.{Record}
use Rattle.formula.specs.Make.{Outcome, old, same, index_of, none, named, not_of, holds, absorbed, neutral, deciding, enter, negate, relate, combine, make}
use Rattle.formula.specs.MakeLaws.{Earlier, Orderly}
use Rattle.formula.specs.Search.{Distinct, larger}

-- Records that are the same are equal.
pub same_is : (r x : Record) → same r x ≡ true → r ≡ x
same_is r x t =
    let q = both_true (eqb r.kind x.kind && eqb r.first x.first) (eqb r.second x.second) t in
    let k = both_true (eqb r.kind x.kind) (eqb r.first x.first) q.0 in
    let a = eqb-true r.kind x.kind k.0 in
    let b = eqb-true r.first x.first k.1 in
    let c = eqb-true r.second x.second q.1 in
    λ i. record { kind = a i; first = b i; second = c i }

-- A record that is found is the one that was sought.
pub found_is : (rs : List Record) (x : Record) → index_of rs x < length rs → get_or rs (index_of rs x) none ≡ x
unfolding index_of
found_is [] x h = absurd (omega arith)
found_is (r ∷ rs) x h =
    by_choice (λ (i : ℕ). i < length (r ∷ rs) → get_or (r ∷ rs) i none ≡ x) (same r x) _ _ (λ t l. same_is r x t) (λ t l. found_is rs x (omega arith)) h

module _ (p : ℕ) (records : List Record) (x : Record) where
  -- Where an outcome adds x, none of the records is the same.
  abbrev Adds : Outcome → Type 0
  Adds o = o.added ≡ x ∷ [] → length records ≤ index_of records x

  adds_old : (r : ℕ) → Adds (old r)
  adds_old r e = absurd (omega (arith, ap (λ (rs : List Record). length rs) e))

  adds_enter : (y : Record) → Adds (enter p y records)
  unfolding enter
  adds_enter y =
      by_choice Adds (ltb (index_of records y) (length records)) _ _
      (λ t. adds_old (formula p (index_of records y)))
      (λ t e. let is : y ≡ x = ap (λ (rs : List Record). get_or rs 0 none) e in rw (← is) (ltb-false _ _ t))

  adds_combine : (kind a b : ℕ) → Adds (combine p kind a b records)
  unfolding combine relate
  adds_combine kind a b =
      by_choice Adds (eqb a (neutral kind)) _ _ (λ t. adds_old b)
      (λ t. by_choice Adds (eqb a (deciding kind)) _ _ (λ t. adds_old a)
      (λ t. by_choice Adds (eqb a b) _ _ (λ t. adds_old a)
      (λ t. by_choice Adds (not_of a (named p b records)) _ _ (λ t. adds_old (deciding kind))
      (λ t. by_choice Adds (holds a (named p b records)) _ _ (λ t. adds_old (absorbed kind a b (named p b records)))
      (λ t. adds_enter (record { kind = kind; first = a; second = b }))))))

  adds_negate : (a : ℕ) → Adds (negate p a records)
  unfolding negate
  adds_negate a =
      by_choice Adds (eqb a constant_false) _ _ (λ t. adds_old constant_true)
      (λ t. by_choice Adds (eqb a constant_true) _ _ (λ t. adds_old constant_false)
      (λ t. by_choice Adds (eqb (named p a records).kind kind_not) _ _ (λ t. adds_old (named p a records).first)
      (λ t. adds_enter (record { kind = kind_not; first = a; second = 0 }))))

  adds_make : (kind a b : ℕ) → Adds (make p kind a b records)
  unfolding make
  adds_make kind a b =
      by_choice Adds (eqb kind kind_not) _ _ (λ t. adds_negate a)
      (λ t. by_choice Adds (leb a b) _ _ (λ t. adds_combine kind a b) (λ t. adds_combine kind b a))

-- Where none is found, each record differs.
not_found : (rs : List Record) (x : Record) → length rs ≤ index_of rs x → (j : ℕ) → j < length rs → same (get_or rs j none) x ≡ false
unfolding index_of
not_found [] x h j l = absurd (omega arith)
not_found (r ∷ rs) x h zero l =
    by_choice (λ (i : ℕ). length (r ∷ rs) ≤ i → same r x ≡ false) (same r x) _ _ (λ t g. absurd (omega arith)) (λ t g. t) h
not_found (r ∷ rs) x h (suc j) l =
    by_choice (λ (i : ℕ). length (r ∷ rs) ≤ i → same (get_or rs j none) x ≡ false) (same r x) _ _
    (λ t g. absurd (omega arith))
    (λ t g. not_found rs x (omega arith) j (omega arith))
    h

-- So no two records in order are equal.
pub distinct : (p : ℕ) (records : List Record) → Orderly p records → Distinct records
distinct p records orderly j k l h =
    let x = get_or records k none in
    let new = adds_make p (take k records) x x.kind x.first x.second (orderly.needed k h) in
    let there = not_found (take k records) x new j (omega (arith, length-take-le k records (omega arith))) in
    rw (get_or-take k records j none l) at there

-- Where no two are equal, a record anywhere that is the same as x is the first.
pub found_at : (rs : List Record) → Distinct rs → (x : Record) (k : ℕ) → k < length rs → same (get_or rs k none) x ≡ true → k ≡ index_of rs x
unfolding index_of
found_at [] apart x k h t = absurd (omega arith)
found_at (r ∷ rs) apart x zero h t = rw t
found_at (r ∷ rs) apart x (suc k) h t =
    by_choice (λ (i : ℕ). suc k ≡ i) (same r x) _ _
    (λ e. let apart_from : same r x ≡ false = rw (same_is (get_or rs k none) x t) at (apart 0 (suc k) (omega arith) h) in
    absurd (true≢false (sym e ∙ apart_from)))
    (λ e. ap suc (found_at rs (λ i j l b. apart (suc i) (suc j) (omega arith) (omega arith)) x k (omega arith) t))

-- Where none is the same as x, their number is given.
pub found_none : (rs : List Record) (x : Record) → ((k : ℕ) → k < length rs → same (get_or rs k none) x ≡ false) → length rs ≡ index_of rs x
unfolding index_of
found_none [] x f = refl
found_none (r ∷ rs) x f = rw (f 0 (omega arith)) (ap suc (found_none rs x (λ k h. f (suc k) (omega arith))))

larger_below : (own : ℕ) (x : Record) → Earlier own x → larger x < own
unfolding larger
larger_below own x e = by_choice (λ (i : ℕ). i < own) (leb x.first x.second) x.second x.first (λ t. e.second) (λ t. e.first)

-- None in order is the same as x whose own reference is at or below x's larger argument.
pub none_before : (p : ℕ) (records : List Record) → Orderly p records → (x : Record) (k : ℕ) → k < length records → formula p k ≤ larger x
    → same (get_or records k none) x ≡ false
none_before p records orderly x k h l =
    by_test (same (get_or records k none) x)
    (λ t. absurd (let e = larger_below (formula p k) x (rw (same_is (get_or records k none) x t) at (orderly.earlier k h)) in omega arith))
    (λ t. t)
