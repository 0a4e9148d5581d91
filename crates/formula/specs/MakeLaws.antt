-- What an operation on references keeps: records stay in order, each of them needed, and the reference that is given is there.
use Rattle.std.specs.Prelude.{◌≡◌, List, [], ◌∷◌, ◌++◌, take}
use Prim.Native.Nat.{ℕ, ◌+◌, ◌≤◌, ◌<◌}
use Rattle.std.proofs.Math.ListN.{length, get_or}
use Rattle.form.specs.References.{formula}
use Rattle.form.specs.declared.Record.{Record}
use Rattle.formula.specs.Make.{Outcome, none, make}

-- A record's arguments are smaller references than its own.
pub record Earlier (own : ℕ) (r : Record) : Type 0 where
  pub first : r.first < own
  pub second : r.second < own

-- Making a record out of these adds it: no rule gives a reference that is there.
abbrev pub Needed : ℕ → List Record → Record → Type 0
Needed p records x = (make p x.kind x.first x.second records).added ≡ x ∷ []

-- Each record's arguments are older than itself, and making it out of those before it adds it.
pub record Orderly (p : ℕ) (records : List Record) : Type 0 where
  pub earlier : (k : ℕ) → k < length records → Earlier (formula p k) (get_or records k none)
  pub needed : (k : ℕ) → k < length records → Needed p (take k records) (get_or records k none)

-- At most so many records are added, all are in order, and the reference is there.
pub record Keeps (p most : ℕ) (records : List Record) (o : Outcome) : Type 0 where
  pub few : length o.added ≤ most
  pub below : o.reference < formula p (length records + length o.added)
  pub orderly : Orderly p (records ++ o.added)
