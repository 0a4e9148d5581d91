-- The ways out of the table's functions, and the comparison of records.
use Rattle.std.specs.Prelude.{◌≡◌, refl, Bool, true, false, ◌&&◌, List, ℕ, ◌+◌, ◌*◌, eqb, set}
use Rattle.std.proofs.Common.{arith, sym, ◌∙◌, eqb-true}
use Rattle.std.proofs.lemmas.Bool.{eqb-false}
use Rattle.laws.specs.Tests.{by_test}
use Rattle.form.specs.declared.Record.{Record}
use Rattle.form.specs.declared.Reference.{Reference}
use Rattle.formula.specs.Make.{Outcome, index_of, enter, same}
use Rattle.records.specs.declared.Records.{Records}
use Rattle.records.specs.Gives.{Makes}
use Rattle.records.specs.Bytes.{put_record, records_in}
use Rattle.records.specs.Entered.{Noted, Usable, made, Entered}
use Rattle.records.specs.Newest.{bucket_of}
use Rattle.records.specs.Rules.{stored_new, stored_noted}
use Rattle.form.specs.References.{variable}

-- Two records are equal field by field.
pub is_same : (x y : Record) → (eqb x.kind y.kind && (eqb x.first y.first && eqb x.second y.second)) ≡ same x y
is_same x y = by_test (eqb x.kind y.kind) (λ t. rw t) (λ t. rw t)

-- Nothing is added: the table and the buffer stay as they are.
pub entered_old : (t : Records) (out : List ℕ) → Noted t out → (rule : List Record → Outcome) (r : Reference)
    → Makes rule t.base t.count out out (made r t) → Entered rule t out t out r
entered_old t out noted rule r m = record { makes = m; noted = noted; base = refl; variables = refl }

-- A record that is not there is appended and noted.
pub entered_new : (t : Records) (out : List ℕ) → Usable t out → (x : Record) → t.count ≡ index_of (records_in out t.base t.count) x
    → (out' : List ℕ) → out' ≡ put_record out (t.base + 6 * t.count) x → (r : Reference) → r.number ≡ variable (t.variables + t.count)
    → (h : ℕ) → h ≡ bucket_of x
    → Entered (enter t.variables x) t out (record t { count = t.count + 1; newest = set t.newest h (t.count + 1) }) out' r
entered_new t out usable x is out' put r e h b =
    let t' : Records = record t { count = t.count + 1; newest = set t.newest h (t.count + 1) } in
    record {
      makes = stored_new t.base t.count out (made r t') t.variables t.count x is out' (omega arith) usable.room.room put e refl;
      noted = stored_noted t.base t.count out out' x usable.room.room put t.newest usable.noted h b;
      base = refl;
      variables = refl;
    }

-- A test of two numbers tells whether they are equal.
module _ {t : Bool} (u v : ℕ) (test : t ≡ eqb u v) where
  pub told_equal : t ≡ true → u ≡ v
  told_equal e = eqb-true u v (sym test ∙ e)

  pub told_unequal : t ≡ false → u ≡ v → ⊥
  told_unequal e = eqb-false u v (sym test ∙ e)
