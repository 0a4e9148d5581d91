-- What a function that may add a record promises: the outcome's reference and count, and each byte of the buffer at exit.
use Rattle.std.specs.Prelude.{◌≡◌, List, ◌++◌, ℕ, ◌+◌, ◌*◌, ◌≤◌, ◌<◌, length}
use Rattle.form.specs.References.{formula}
use Rattle.form.specs.declared.Record.{Record}
use Rattle.formula.specs.Make.{Outcome}
use Rattle.formula.specs.MakeLaws.{Orderly}
use Rattle.form.specs.declared.Reference.{Reference}
use Rattle.records.specs.Bytes.{records_in, put_records}

-- What making gives: a reference, and how many records there are then.
pub record Made : Type 0 where
  pub reference : Reference
  pub count : ℕ

-- The records are in order, there is room for one more, and its reference has 16 bits.
pub record Room (p base count : ℕ) (s : List ℕ) : Type 0 where
  pub orderly : Orderly p (records_in s base count)
  pub room : base + 6 * count + 6 ≤ length s
  pub fits : formula p count < 65536

-- An outcome's reference comes back, its record is appended, and every other byte stays.
pub record Gives (o : Outcome) (base had : ℕ) (entry exit : List ℕ) (r : Made) : Type 0 where
  pub reference : r.reference.number ≡ o.reference
  pub count : r.count ≡ had + length o.added
  pub bytes : exit ≡ put_records entry (base + 6 * had) o.added
  pub records : records_in exit base r.count ≡ records_in entry base had ++ o.added

-- The same, of the outcome that a rule gives on the records at entry.
abbrev pub Makes : (List Record → Outcome) → ℕ → ℕ → List ℕ → List ℕ → Made → Type 0
Makes rule base had entry exit r = Gives (rule (records_in entry base had)) base had entry exit r
