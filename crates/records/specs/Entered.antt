-- The program's table of records: usable for a buffer, and what a function that may add a record promises.
use Rattle.std.specs.Prelude.{◌≡◌, ◌<◌, List, ℕ, Option, MatchOption, replicate}
use Rattle.form.specs.declared.Record.{Record}
use Rattle.form.specs.declared.Reference.{Reference}
use Rattle.formula.specs.Make.{Outcome, index_of}
use Rattle.records.specs.declared.Records.{Records}
use Rattle.records.specs.Bytes.{records_in}
use Rattle.records.specs.Gives.{Made, Room, Makes}
use Rattle.records.specs.Newest.{buckets, newest_of}

-- The newest record of each bucket is noted.
abbrev pub Noted : Records → List ℕ → Type 0
Noted t out = t.newest ≡ newest_of (records_in out t.base t.count)

-- Where a record is, or that it is not there.
abbrev pub FoundIn : List Record → ℕ → Record → Option ℕ → Type 0
FoundIn rs n x r = MatchOption r (n ≡ index_of rs x) (λ k. (k ≡ index_of rs x) × (k < n))

-- There are no records yet, and none is noted; they are numbered after so many variables.
pub record Empty (p : ℕ) (t : Records) : Type 0 where
  pub count : t.count ≡ 0
  pub variables : t.variables ≡ p
  pub newest : t.newest ≡ replicate buckets 0

-- There is room for one more record.
pub record Usable (t : Records) (out : List ℕ) : Type 0 where
  pub room : Room t.variables t.base t.count out
  pub noted : Noted t out

-- What has been made: the reference, and how many records there are then.
abbrev pub made : Reference → Records → Made
made r t = record { reference = r; count = t.count }

-- A rule has been applied to the records: its outcome is in the table, which lies where it was.
pub record Entered (rule : List Record → Outcome) (t : Records) (out : List ℕ) (t' : Records) (out' : List ℕ) (r : Reference) : Type 0 where
  pub makes : Makes rule t.base t.count out out' (made r t')
  pub noted : Noted t' out'
  pub base : t'.base ≡ t.base
  pub variables : t'.variables ≡ t.variables
