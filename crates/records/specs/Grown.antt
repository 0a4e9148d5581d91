-- A table that is in order, with room for more records, and what it is after some were added.
use Rattle.std.specs.Prelude.{◌≡◌, List, [], ◌++◌, ℕ, ◌+◌, ◌*◌, ◌≤◌, ◌<◌, length}
use Rattle.std.proofs.Common.{sym, ap, ◌∙◌, append-nil, append_assoc, arith, length-append}
use Rattle.form.specs.References.{formula}
use Rattle.form.specs.declared.Record.{Record}
use Rattle.formula.specs.Make.{Outcome, make}
use Rattle.formula.specs.MakeLaws.{Orderly, Keeps}
use Rattle.formula.proofs.MakeLaws.{keeps_make}
use Rattle.records.specs.Gives.{Made}
use Rattle.records.specs.Bytes.{records_in, put_records}
use Rattle.records.specs.Laws.{length_records, put_none, puts_append, puts_length}
use Rattle.records.specs.Gives.{Room, Gives, Makes}

-- The records are in order, and there is room for so many more, each with a reference of 16 bits.
pub record Table (p base more count : ℕ) (s : List ℕ) : Type 0 where
  pub orderly : Orderly p (records_in s base count)
  pub room : base + 6 * (count + more) ≤ length s
  pub fits : formula p (count + more) ≤ 65536

-- At most so many records have been added after the last, every other byte is as it was, and the records are in order.
pub record Grown (p base most : ℕ) (s : List ℕ) (count : ℕ) (t : List ℕ) (now : ℕ) : Type 0 where
  pub added : List Record
  pub few : length added ≤ most
  pub more : now ≡ count + length added
  pub bytes : t ≡ put_records s (base + 6 * count) added
  pub records : records_in t base now ≡ records_in s base count ++ added
  pub orderly : Orderly p (records_in t base now)

module _ (p base : ℕ) where
  -- No record has been added.
  pub grown_none : (count : ℕ) (s : List ℕ) → Orderly p (records_in s base count) → Grown p base 0 s count s count
  grown_none count s o =
      record {
        added = [];
        few = omega arith;
        more = omega arith;
        bytes = sym (put_none s (base + 6 * count));
        records = sym (append-nil (records_in s base count));
        orderly = o;
      }

  -- An outcome has been stored.
  pub grown_given : (most count : ℕ) (s t : List ℕ) (m : Made) (o : Outcome) → Keeps p most (records_in s base count) o
      → Gives o base count s t m → Grown p base most s count t m.count
  grown_given most count s t m o k g =
      record {
        added = o.added;
        few = k.few;
        more = g.count;
        bytes = g.bytes;
        records = g.records;
        orderly = rw g.records k.orderly;
      }

  module _ (a b : ℕ) {s t u : List ℕ} {i j k : ℕ} where
    -- Some records, and then more.
    pub grown_then : Grown p base a s i t j → Grown p base b t j u k → Grown p base (a + b) s i u k
    grown_then x y =
        let place : base + 6 * j ≡ base + 6 * i + 6 * length x.added = omega (arith, x.more) in
        record {
          added = x.added ++ y.added;
          few = omega (arith, x.few, y.few, length-append x.added y.added);
          more = omega (arith, x.more, y.more, length-append x.added y.added);
          bytes = y.bytes ∙ rw (place, x.bytes) (sym (puts_append s (base + 6 * i) x.added y.added));
          records = y.records ∙ ap (λ (r : List Record). r ++ y.added) x.records ∙ append_assoc (records_in s base i) x.added y.added;
          orderly = y.orderly;
        }

  -- The buffer stays as long as it was.
  pub grown_length : {most : ℕ} {s t : List ℕ} {i j : ℕ} → Grown p base most s i t j → length t ≡ length s
  grown_length {s = s} {i = i} x = rw x.bytes (puts_length s (base + 6 * i) x.added)

  -- There is room for fewer.
  pub table_less : (more less : ℕ) → less ≤ more → {count : ℕ} {s : List ℕ} → Table p base more count s → Table p base less count s
  table_less more less h x = record { orderly = x.orderly; room = omega (arith, x.room); fits = omega (arith, x.fits) }

  -- There is room for the rest.
  pub table_after : (a b : ℕ) {s t : List ℕ} {i j : ℕ} → Table p base (a + b) i s → Grown p base a s i t j → Table p base b j t
  table_after a b x y =
      record {
        orderly = y.orderly;
        room = omega (arith, x.room, y.few, y.more, grown_length y);
        fits = omega (arith, x.fits, y.few, y.more);
      }

  module _ {count : ℕ} {s : List ℕ} where
    -- There is room for one more.
    pub table_room : (more : ℕ) → 1 ≤ more → Table p base more count s → Room p base count s
    table_room more h x = record { orderly = x.orderly; room = omega (arith, x.room); fits = omega (arith, x.fits) }

    -- What making keeps, by what the table holds.
    module _ (kind a b : ℕ) (o : Orderly p (records_in s base count)) (ha : a < formula p count) (hb : b < formula p count) (t : List ℕ) (m : Made)
        (made : Makes (make p kind a b) base count s t m) where
      keeps : Keeps p 1 (records_in s base count) (make p kind a b (records_in s base count))
      keeps =
          let l = length_records s base count in
          keeps_make p (records_in s base count) o kind a b (omega arith) (omega arith)

      pub grown_made : Grown p base 1 s count t m.count
      grown_made = grown_given 1 count s t m (make p kind a b (records_in s base count)) keeps made

      pub made_below : m.reference.number < formula p m.count
      made_below = omega (arith, keeps.below, made.reference, made.count, length_records s base count)
