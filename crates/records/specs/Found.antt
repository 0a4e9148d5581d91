-- The search for a record in a table, and the record that a reference names.
use Rattle.std.specs.Prelude.{ℕ, ◌+◌, ◌-◌, ◌*◌, ◌≤◌, ◌<◌, ◌≡◌, Bool, true, false, ◌&&◌, List, eqb, ltb, get_or}
use Rattle.std.proofs.Math.Path.{sym}
use Rattle.std.proofs.Common.{ap, ◌∙◌, ⊎_elim, eq-or-lt_of_le, eq-eqb, ne_eqb, lt-ltb, le-ltb, le-leb, ltb-true, ltb-false}
use Rattle.std.proofs.Math.Bool.{and-false, and-true}
use native.Mathlib.Omega.{arith}
use Rattle.std.proofs.lemmas.Bool.{lt-leb}
use Rattle.laws.specs.Tests.{by_test}
use Rattle.form.specs.declared.Record.{Record}
use Rattle.form.specs.References.{formula}
use Rattle.network.specs.Network.{given_at}
use Rattle.records.specs.Bytes.{records_in}
use Rattle.records.specs.Laws.{length_records, record_at}
use Rattle.records.specs.Gives.{Room}
use Rattle.records.specs.Newest.{bucket_of, newest_of, newest_most, newest_after}
use Rattle.formula.specs.Make.{same, index_of, named, none}
use Rattle.formula.specs.Search.{larger, place_after}
use Rattle.formula.proofs.SearchLaws.{same_is, distinct, found_at, found_none, none_before}

-- Two records are compared field by field, the second argument first.
module _ (x y : Record) where
  pub second_differs : (x.second ≡ y.second → ⊥) → false ≡ same x y
  second_differs e = rw (ne_eqb _ _ e) (sym (and-false (eqb x.kind y.kind && eqb x.first y.first)))

  pub first_differs : x.second ≡ y.second → (x.first ≡ y.first → ⊥) → false ≡ same x y
  first_differs e f = rw (eq-eqb _ _ e, ne_eqb _ _ f, and-false (eqb x.kind y.kind))

  pub by_kind : x.second ≡ y.second → x.first ≡ y.first → eqb x.kind y.kind ≡ same x y
  by_kind e f = rw (eq-eqb _ _ e, eq-eqb _ _ f, and-true (eqb x.kind y.kind), and-true (eqb x.kind y.kind))

-- The larger argument.
module _ (x : Record) where
  pub larger_second : x.first ≤ x.second → x.second ≡ larger x
  unfolding larger
  larger_second h = rw (le-leb _ _ h)

  pub larger_first : x.second < x.first → x.first ≡ larger x
  unfolding larger
  larger_first h = rw (lt-leb _ _ h)

-- The search has come down to k: no record from there on is the same.
pub record Searched (s : List ℕ) (base n : ℕ) (x : Record) (k : ℕ) : Type 0 where
  pub within : k ≤ n
  pub passed : (j : ℕ) → k ≤ j → j < n → same (get_or (records_in s base n) j none) x ≡ false

module _ (s : List ℕ) (base n : ℕ) (x : Record) where
  -- It begins at the bucket's newest: what is passed over is in other buckets.
  pub searched_none : (newest : List ℕ) → newest ≡ newest_of (records_in s base n) → (h k : ℕ) → h ≡ bucket_of x → k ≡ get_or newest h 0
      → Searched s base n x k
  searched_none newest e h k is at =
      let rs = records_in s base n in
      let l = length_records s base n in
      let start : k ≡ get_or (newest_of rs) (bucket_of x) 0 = rw (← is, ← e) at in
      record {
        within = omega (arith, newest_most rs (bucket_of x));
        passed = λ j a b. by_test (same (get_or rs j none) x)
            (λ t. absurd (newest_after rs (bucket_of x) j (omega arith) (omega arith) (ap bucket_of (same_is (get_or rs j none) x t))))
            (λ t. t);
      }

  module _ (k : ℕ) (inv : Searched s base n x k) where
    pub searched_all : (p least : ℕ) → Room p base n s → least ≡ place_after p x → k ≤ least → n ≡ index_of (records_in s base n) x
    searched_all p least room is e =
        let l = length_records s base n in
        sym l
        ∙ found_none (records_in s base n) x
        (λ j h. by_test (ltb j k)
        (λ t. let b = ltb-true j k t in none_before p (records_in s base n) room.orderly x j h (omega arith))
        (λ t. inv.passed j (ltb-false j k t) (omega arith)))

    module _ (least : ℕ) (h : least < k) (r : Record) (read : r ≡ given_at s (base + 6 * (k - 1))) (t : Bool) (test : t ≡ same r x) where
      here : same (get_or (records_in s base n) (k - 1) none) x ≡ t
      here = ap (λ (y : Record). same y x) (record_at s base n (k - 1) none (omega (arith, inv.within)) ∙ sym read) ∙ sym test

      pub searched_hit : (p : ℕ) → Room p base n s → t ≡ true → k - 1 ≡ index_of (records_in s base n) x
      searched_hit p room e =
          let rs = records_in s base n in
          found_at rs (distinct p rs room.orderly) x (k - 1) (omega (arith, inv.within, length_records s base n)) (here ∙ e)

      pub searched_more : t ≡ false → Searched s base n x (k - 1)
      searched_more e =
          record {
            within = omega (arith, inv.within);
            passed = λ j a b. ⊎_elim (λ q. rw (← q) (here ∙ e)) (λ l. inv.passed j (omega arith) b) (eq-or-lt_of_le a);
          }

-- A reference names a record of the table, or none.
module _ (s : List ℕ) (base n p i : ℕ) where
  pub names_none : i < 2 + p → none ≡ named p i (records_in s base n)
  unfolding named
  names_none h = rw (lt-ltb i (formula p 0) (omega arith))

  pub names_record : 2 + p ≤ i → i < formula p n → (x : Record) → x ≡ given_at s (base + 6 * (i - (2 + p))) → x ≡ named p i (records_in s base n)
  unfolding named
  names_record h l x e =
      let q : i - formula p 0 ≡ i - (2 + p) = omega arith in
      rw (le-ltb i (formula p 0) (omega arith), q) (e ∙ sym (record_at s base n (i - (2 + p)) none (omega arith)))
