-- Each way out of the code, as a law: its tests give the case of the definition, and its values what `Gives` asks.
use Rattle.std.specs.Prelude.{ℕ, ◌+◌, ◌*◌, ◌≤◌, ◌<◌, ◌≡◌, List, [], ◌∷◌, Bool, true, false, eqb, length, set}
use Rattle.std.proofs.Common.{sym, ◌∙◌, append-nil, arith}
use borrow.Author.Tests.{eq-eqb, ne_eqb, lt-ltb, le-ltb, le-leb, lt-leb}
use Rattle.form.specs.References.{formula}
use Rattle.form.specs.declared.Record.{Record}
use Rattle.records.specs.Gives.{Made}
use Rattle.records.specs.Bytes.{records_in, put_record}
use Rattle.records.specs.Laws.{length_records, records_more, put_none, put_one}
use Rattle.formula.specs.Make.{old, index_of, named, not_of, and_or, holds, absorbed, neutral, deciding, enter, negate, relate, combine, make}
use Rattle.records.specs.Gives.{Gives, Makes}
use Rattle.records.specs.Newest.{bucket_of, newest_of, newest_more}

-- Whether a record holds a,
module _ (a : ℕ) (x : Record) (t : Bool) (is : t ≡ and_or x) where
  pub holds_none : t ≡ false → false ≡ holds a x
  holds_none e = rw (← is, e)

  pub holds_first : t ≡ true → x.first ≡ a → true ≡ holds a x
  holds_first e f = rw (← is, e, eq-eqb x.first a f)

  pub holds_second : t ≡ true → (x.first ≡ a → ⊥) → eqb x.second a ≡ holds a x
  holds_second e f = rw (← is, e, ne_eqb x.first a f)

-- and what the two give then.
module _ (kind a b : ℕ) (x : Record) where
  pub or_or : kind ≡ 2 → x.kind ≡ 2 → b ≡ absorbed kind a b x
  or_or k o = rw (k, o)

  pub or_and : kind ≡ 2 → (x.kind ≡ 2 → ⊥) → a ≡ absorbed kind a b x
  or_and k o = rw (k, ne_eqb x.kind 2 o)

  pub and_or_lem : (kind ≡ 2 → ⊥) → x.kind ≡ 2 → a ≡ absorbed kind a b x
  and_or_lem k o = rw (ne_eqb kind 2 k, o)

  pub and_and : (kind ≡ 2 → ⊥) → (x.kind ≡ 2 → ⊥) → b ≡ absorbed kind a b x
  and_and k o = rw (ne_eqb kind 2 k, ne_eqb x.kind 2 o)

-- A record that was appended is its bucket's newest.
pub stored_noted : (base n : ℕ) (s t : List ℕ) (x : Record) → base + 6 * n + 6 ≤ length s → t ≡ put_record s (base + 6 * n) x
    → (newest : List ℕ) → newest ≡ newest_of (records_in s base n) → (h : ℕ) → h ≡ bucket_of x
    → set newest h (n + 1) ≡ newest_of (records_in t base (n + 1))
stored_noted base n s t x room b newest e h is =
    rw (b, records_more s base n x room, newest_more (records_in s base n) x, length_records s base n, e, is)

module _ (base n : ℕ) (s : List ℕ) (m : Made) where
  -- Nothing is added,
  pub gives_old : (r : ℕ) → m.reference.number ≡ r → m.count ≡ n → Gives (old r) base n s s m
  gives_old r e f =
      record {
        reference = e;
        count = omega arith;
        bytes = sym (put_none s (base + 6 * n));
        records = rw f (sym (append-nil (records_in s base n)));
      }

  -- or a record is.
  pub gives_new : (r : ℕ) (x : Record) (t : List ℕ) → base + 6 * n + 6 ≤ length s → t ≡ put_record s (base + 6 * n) x → m.reference.number ≡ r
      → m.count ≡ n + 1 → Gives (record { reference = r; added = x ∷ [] }) base n s t m
  gives_new r x t room b e f =
      record {
        reference = e;
        count = omega arith;
        bytes = b ∙ sym (put_one s (base + 6 * n) x);
        records = rw (b, f) (records_more s base n x room);
      }

  module _ (p k : ℕ) (x : Record) (found : k ≡ index_of (records_in s base n) x) where
    pub stored_old : k < n → m.reference.number ≡ 2 + (p + k) → m.count ≡ n → Makes (enter p x) base n s s m
    unfolding enter
    stored_old h e f =
        rw (← found, lt-ltb k (length (records_in s base n)) (omega (arith, length_records s base n)))
        (gives_old (formula p k) (omega arith) f)

    pub stored_new : (t : List ℕ) → n ≤ k → base + 6 * n + 6 ≤ length s → t ≡ put_record s (base + 6 * n) x → m.reference.number ≡ 2 + (p + n)
        → m.count ≡ n + 1 → Makes (enter p x) base n s t m
    unfolding enter
    stored_new t h room b e f =
        rw (← found, le-ltb k (length (records_in s base n)) (omega (arith, length_records s base n)))
        (gives_new (formula p (length (records_in s base n))) x t room b (omega (arith, length_records s base n)) f)

  -- Rule 5.
  module _ (p a : ℕ) where
    pub not_false : a ≡ 0 → m.reference.number ≡ 1 → m.count ≡ n → Makes (negate p a) base n s s m
    unfolding negate
    not_false z e f = rw (eq-eqb a 0 z) (gives_old 1 e f)

    pub not_true : (a ≡ 0 → ⊥) → a ≡ 1 → m.reference.number ≡ 0 → m.count ≡ n → Makes (negate p a) base n s s m
    unfolding negate
    not_true z o e f = rw (ne_eqb a 0 z, eq-eqb a 1 o) (gives_old 0 e f)

    module _ (x : Record) (read : x ≡ named p a (records_in s base n)) (z : a ≡ 0 → ⊥) (o : a ≡ 1 → ⊥) where
      pub not_not : x.kind ≡ 3 → m.reference.number ≡ x.first → m.count ≡ n → Makes (negate p a) base n s s m
      unfolding negate
      not_not k e f = rw (ne_eqb a 0 z, ne_eqb a 1 o, ← read, eq-eqb x.kind 3 k) (gives_old x.first e f)

      pub not_new : (t : List ℕ) → (x.kind ≡ 3 → ⊥) → Makes (enter p (record { kind = 3; first = a; second = 0 })) base n s t m
          → Makes (negate p a) base n s t m
      unfolding negate
      not_new t k g = rw (ne_eqb a 0 z, ne_eqb a 1 o, ← read, ne_eqb x.kind 3 k) g

  -- Rule 4, and absorption.
  module _ (p kind a b : ℕ) (x : Record) (read : x ≡ named p b (records_in s base n)) (y : Bool) (is_y : y ≡ not_of a x) where
    pub opposes : y ≡ true → m.reference.number ≡ deciding kind → m.count ≡ n → Makes (relate p kind a b) base n s s m
    unfolding relate
    opposes t e f = rw (← read, ← is_y, t) (gives_old (deciding kind) e f)

    module _ (not-y : y ≡ false) (z : Bool) (is-z : z ≡ holds a x) where
      pub absorbs : z ≡ true → m.reference.number ≡ absorbed kind a b x → m.count ≡ n → Makes (relate p kind a b) base n s s m
      unfolding relate
      absorbs t e f = rw (← read, ← is_y, not-y, ← is-z, t) (gives_old (absorbed kind a b x) e f)

      pub joins : (t : List ℕ) → z ≡ false → Makes (enter p (record { kind = kind; first = a; second = b })) base n s t m
          → Makes (relate p kind a b) base n s t m
      unfolding relate
      joins t k g = rw (← read, ← is_y, not-y, ← is-z, k) g

  -- Rules 2 and 3.
  module _ (p kind a b u : ℕ) (is-u : u ≡ neutral kind) where
    pub leaves : a ≡ u → m.reference.number ≡ b → m.count ≡ n → Makes (combine p kind a b) base n s s m
    unfolding combine
    leaves t e f = rw (eq-eqb a (neutral kind) (t ∙ is-u)) (gives_old b e f)

    module _ (not-u : a ≡ u → ⊥) (v : ℕ) (is-v : v ≡ deciding kind) where
      pub decides : a ≡ v → m.reference.number ≡ a → m.count ≡ n → Makes (combine p kind a b) base n s s m
      unfolding combine
      decides t e f = rw (← is-u, ← is-v, ne_eqb a u not-u, eq-eqb a v t) (gives_old a e f)

      module _ (not-v : a ≡ v → ⊥) where
        pub equals : a ≡ b → m.reference.number ≡ a → m.count ≡ n → Makes (combine p kind a b) base n s s m
        unfolding combine
        equals t e f = rw (← is-u, ← is-v, ne_eqb a u not-u, ne_eqb a v not-v, eq-eqb a b t) (gives_old a e f)

        pub relates : (t : List ℕ) → (a ≡ b → ⊥) → Makes (relate p kind a b) base n s t m → Makes (combine p kind a b) base n s t m
        unfolding combine
        relates t not-b g = rw (← is-u, ← is-v, ne_eqb a u not-u, ne_eqb a v not-v, ne_eqb a b not-b) g

  module _ (p kind a b : ℕ) where
    -- Rule 1.
    module _ (t : List ℕ) where
      pub makes_not : kind ≡ 3 → Makes (negate p a) base n s t m → Makes (make p kind a b) base n s t m
      unfolding make
      makes_not k g = rw (eq-eqb kind 3 k) g

      pub makes_straight : (kind ≡ 3 → ⊥) → a ≤ b → Makes (combine p kind a b) base n s t m → Makes (make p kind a b) base n s t m
      unfolding make
      makes_straight k l g = rw (ne_eqb kind 3 k, le-leb a b l) g

      pub makes_turned : (kind ≡ 3 → ⊥) → b < a → Makes (combine p kind b a) base n s t m → Makes (make p kind a b) base n s t m
      unfolding make
      makes_turned k l g = rw (ne_eqb kind 3 k, lt-leb a b l) g
