-- What records mean under a setting: earlier references keep their worth, and what is made is worth the operation on its arguments' worths.
use Rattle.std.specs.Prelude.{◌≡◌, Bool, true, not, cond, ◌||◌, List, [], ◌∷◌, ◌++◌, ℕ, suc, ◌-◌, ◌≤◌, ◌<◌, leb, ltb, get_or, take, drop}
use Rattle.std.proofs.Math.Path.{refl, sym}
use Rattle.std.proofs.Common.{ap, ◌∙◌, ⊎_elim, take-append-drop, take-suc, length-take-le}
use Rattle.std.proofs.Math.Bool.{false, not-not}
use Rattle.std.proofs.lemmas.Bool.{false≢true}
use native.Mathlib.Omega.{arith}
use borrow.Author.Tests.{eqb-true, ltb-true, ltb-false}
use Rattle.std.proofs.Math.Dec.{eqb}
use Rattle.std.proofs.Math.ListN.{length}
use Rattle.laws.specs.Tests.{both_true, either_true, by_choice}
use Rattle.form.specs.References.{kind_or, kind_not, constant_false, constant_true, formula}
use Rattle.form.specs.declared.Record.{Record}
use Rattle.formula.specs.Make.{Outcome, old, index_of, none, named, not_of, and_or, holds, absorbed, neutral, deciding, enter, negate, relate, combine, make}
use Rattle.formula.specs.MakeLaws.{Orderly}
use Rattle.formula.proofs.MakeLaws.{named_first, and_or_kind, absorbed_is}
use Rattle.formula.proofs.SearchLaws.{found_is}
use Rattle.formula.specs.Worth.{operate, leaves, evaluate, worth}
use Rattle.formula.specs.WorthLaws.{operate_not, operate_neutral, operate_deciding, operate_opposite, operate_same, operate_turned, operate_again, operate_absorbed}
use Rattle.formula.specs.WorthLaws.{value_next, leaves_length, evaluate_length, evaluate_append, evaluate_kept}

module _ (setting : List ℕ) (p : ℕ) (sized : length setting ≡ p) where
  known_length : (records : List Record) → length (evaluate (leaves setting) records) ≡ formula p (length records)
  known_length records = omega (arith, evaluate_length (leaves setting) records, leaves_length setting)

  module _ (records : List Record) where
    -- Reference 0 is false,
    pub worth_false : worth setting records constant_false ≡ false
    unfolding worth
    worth_false = evaluate_kept (leaves setting) records constant_false (omega arith)

    -- and reference 1 is true.
    pub worth_true : worth setting records constant_true ≡ true
    unfolding worth
    worth_true = evaluate_kept (leaves setting) records constant_true (omega arith)

    -- A reference that is there keeps its worth when records are added.
    pub worth_kept : (more : List Record) (r : ℕ) → r < formula p (length records) → worth setting (records ++ more) r ≡ worth setting records r
    unfolding worth
    worth_kept more r h = rw evaluate_append (evaluate_kept (evaluate (leaves setting) records) more r (omega (arith, known_length records)))

    -- So it does where none is added.
    pub worth_old : (r : ℕ) → r < formula p (length records) → worth setting (records ++ (old r).added) (old r).reference ≡ worth setting records r
    worth_old r h = worth_kept [] r h

    -- One record more is worth its operation.
    pub worth_next :
        (x : Record) →
        worth setting (records ++ (x ∷ [])) (formula p (length records))
        ≡ operate x.kind (worth setting records x.first) (worth setting records x.second)
    unfolding worth evaluate
    worth_next x = rw (evaluate_append, ← known_length records) (value_next (evaluate (leaves setting) records) _)

  module _ (records : List Record) (orderly : Orderly p records) where
    -- Each record is worth its operation.
    pub worth_record :
        (k : ℕ) → k < length records →
        worth setting records (formula p k)
        ≡ operate (get_or records k none).kind
        (worth setting records (get_or records k none).first)
        (worth setting records (get_or records k none).second)
    worth_record k h =
        let x = get_or records k none in
        let l : length (take k records) ≡ k = length-take-le k records (omega arith) in
        let m : length (take (suc k) records) ≡ suc k = length-take-le (suc k) records (omega arith) in
        let q = orderly.earlier k h in
        rw (front (suc k) (formula p k) (omega arith), front k x.first (omega (arith, q.first)), front k x.second (omega (arith, q.second)))
        (rw (take-suc records k none h) (rw l at (worth_next (take k records) x)))
      where
        front : (n r : ℕ) → r < formula p (length (take n records)) → worth setting records r ≡ worth setting (take n records) r
        front n r b =
            ap (λ (rs : List Record). worth setting rs r) (sym (take-append-drop n records)) ∙ worth_kept (take n records) (drop n records) r b

    -- What a reference is worth before, and that an outcome's is worth w afterwards.
    abbrev value : ℕ → Bool
    value = worth setting records

    abbrev Is : Bool → Outcome → Type 0
    Is w o = worth setting (records ++ o.added) o.reference ≡ w

    is_entered : (x : Record) → Is (operate x.kind (value x.first) (value x.second)) (enter p x records)
    unfolding enter
    is_entered x =
        by_choice (Is (operate x.kind (value x.first) (value x.second))) (ltb (index_of records x) (length records)) _ _
        (λ t.
        let h : index_of records x < length records = ltb-true _ _ t in
        worth_old records (formula p (index_of records x)) (omega arith) ∙ (rw (found_is records x h) at (worth_record (index_of records x) h)))
        (λ t. worth_next records x)

    -- What a reference names, unless it is a constant or a variable, is worth its operation.
    named_worth : (b : ℕ) → b < formula p (length records) → eqb (named p b records).kind 0 ≡ false
        → value b ≡ operate (named p b records).kind (value (named p b records).first) (value (named p b records).second)
    unfolding named
    named_worth b h =
        by_choice (λ (x : Record). eqb x.kind 0 ≡ false → value b ≡ operate x.kind (value x.first) (value x.second))
        (ltb b (formula p 0)) _ _
        (λ l t. absurd (false≢true (sym t)))
        (λ l t.
        let g : formula p 0 ≤ b = ltb-false _ _ l in
        let e : formula p (b - formula p 0) ≡ b = omega arith in
        rw e at (worth_record (b - formula p 0) (omega arith)))

    -- A not record is worth the opposite of its argument.
    named_not : (b : ℕ) → b < formula p (length records) → eqb (named p b records).kind kind_not ≡ true
        → value b ≡ not (value (named p b records).first)
    named_not b h t =
        let k = eqb-true (named p b records).kind kind_not t in
        named_worth b h (rw k) ∙ operate_not (named p b records).kind t _ _

    -- A record that holds a is worth its operation on a and on its other argument.
    named_holds : (a b : ℕ) → b < formula p (length records) → holds a (named p b records) ≡ true → let x = named p b records in
        (c : ℕ) × (value b ≡ operate x.kind (value a) (value c))
    named_holds a b h t =
        let x = named p b records in
        let q = both_true (and_or x) (eqb x.first a || eqb x.second a) t in
        let k = and_or_kind x q.0 in
        let is = named_worth b h k.0 in
        ⊎_elim
        (λ e. (x.second, is ∙ rw (eqb-true x.first a e)))
        (λ e. (x.first, is ∙ operate_turned x.kind k.1 _ _ ∙ rw (eqb-true x.second a e)))
        (either_true (eqb x.first a) (eqb x.second a) q.1)

    is_negated : (a : ℕ) → a < formula p (length records) → Is (not (value a)) (negate p a records)
    unfolding negate
    is_negated a h =
        by_choice (Is (not (value a))) (eqb a constant_false) _ _
        (λ t. rw (eqb-true a constant_false t, worth_false records) (worth_old records constant_true (omega arith) ∙ worth_true records))
        (λ _. by_choice (Is (not (value a))) (eqb a constant_true) _ _
        (λ t. rw (eqb-true a constant_true t, worth_true records) (worth_old records constant_false (omega arith) ∙ worth_false records))
        (λ _. by_choice (Is (not (value a))) (eqb (named p a records).kind kind_not) _ _
        (λ t. rw (named_not a h t, not-not) (worth_old records (named p a records).first (named_first p records orderly a h)))
        (λ _. is_entered (record { kind = kind_not; first = a; second = 0 }) ∙ operate_not kind_not refl _ _)))

    -- The constant that decides is there, and what it and the other are worth.
    deciding_there : (t : Bool) → cond t constant_true constant_false < formula p (length records)
    deciding_there true = omega arith
    deciding_there false = omega arith

    worth_deciding : (t : Bool) → value (cond t constant_true constant_false) ≡ t
    worth_deciding true = worth_true records
    worth_deciding false = worth_false records

    worth_neutral : (t : Bool) → value (cond t constant_false constant_true) ≡ not t
    worth_neutral true = worth_false records
    worth_neutral false = worth_true records

    is_absorbed : (kind a b : ℕ) → eqb kind kind_not ≡ false → a < formula p (length records) → b < formula p (length records)
        → let x = named p b records in holds a x ≡ true → Is (operate kind (value a) (value b)) (old (absorbed kind a b x))
    is_absorbed kind a b plain ha hb t =
        let x = named p b records in
        let inner = (and_or_kind x (both_true (and_or x) (eqb x.first a || eqb x.second a) t).0).1 in
        let q = named_holds a b hb t in
        worth_old records (absorbed kind a b x) (absorbed_is (λ i. i < formula p (length records)) kind a b x (λ _. hb) (λ _. ha))
        ∙ absorbed_is (λ i. value i ≡ operate kind (value a) (value b)) kind a b x
        (λ e. rw q.1 (sym (operate_again kind plain x.kind inner e (value a) (value q.0))))
        (λ e. rw q.1 (sym (operate_absorbed kind plain x.kind inner e (value a) (value q.0))))

    is_related : (kind a b : ℕ) → eqb kind kind_not ≡ false → a < formula p (length records) → b < formula p (length records)
        → Is (operate kind (value a) (value b)) (relate p kind a b records)
    unfolding relate
    is_related kind a b plain ha hb =
        let w = operate kind (value a) (value b) in
        by_choice (Is w) (not_of a (named p b records)) _ _
        (λ t.
        let q = both_true (eqb (named p b records).kind kind_not) (eqb (named p b records).first a) t in
        rw (named_not b hb q.0, eqb-true _ a q.1, operate_opposite kind plain)
        (worth_old records (deciding kind) (deciding_there (eqb kind kind_or)) ∙ worth_deciding (eqb kind kind_or)))
        (λ _. by_choice (Is w) (holds a (named p b records)) _ _
        (λ t. is_absorbed kind a b plain ha hb t)
        (λ _. is_entered (record { kind = kind; first = a; second = b })))

    is_combined : (kind a b : ℕ) → eqb kind kind_not ≡ false → a < formula p (length records) → b < formula p (length records)
        → Is (operate kind (value a) (value b)) (combine p kind a b records)
    unfolding combine
    is_combined kind a b plain ha hb =
        let w = operate kind (value a) (value b) in
        by_choice (Is w) (eqb a (neutral kind)) _ _
        (λ t. rw (eqb-true a (neutral kind) t, worth_neutral (eqb kind kind_or), operate_neutral kind plain) (worth_old records b hb))
        (λ _. by_choice (Is w) (eqb a (deciding kind)) _ _
        (λ t. worth_old records a ha ∙ rw (eqb-true a (deciding kind) t, worth_deciding (eqb kind kind_or), operate_deciding kind plain))
        (λ _. by_choice (Is w) (eqb a b) _ _
        (λ t. rw (← eqb-true a b t, operate_same kind plain) (worth_old records a ha))
        (λ _. is_related kind a b plain ha hb)))

    -- What is made is worth the operation.
    pub worth_made :
        (kind a b : ℕ) → a < formula p (length records) → b < formula p (length records) →
        worth setting (records ++ (make p kind a b records).added) (make p kind a b records).reference
        ≡ operate kind (worth setting records a) (worth setting records b)
    unfolding make
    worth_made kind a b ha hb =
        by_choice (Is (operate kind (value a) (value b))) (eqb kind kind_not) _ _
        (λ t. is_negated a ha ∙ sym (operate_not kind t _ _))
        (λ plain. by_choice (Is (operate kind (value a) (value b))) (leb a b) _ _
        (λ _. is_combined kind a b plain ha hb)
        (λ _. is_combined kind b a plain hb ha ∙ operate_turned kind plain _ _))
