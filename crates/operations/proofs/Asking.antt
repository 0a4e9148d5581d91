-- The product and its sum, made one after the other in one table of records, and an operation carried out on a worksheet.
use Rattle.std.specs.Prelude.{◌≡◌, true, false, cond, List, [], ◌∷◌, ℕ, ◌<◌, set}
use Rattle.std.proofs.Common.{◌∙◌, refl}
use Rattle.form.specs.References.{kind_and, kind_or, formula}
use Rattle.form.specs.declared.Reference.{Reference}
use Rattle.formula.specs.Make.{make}
use Rattle.records.specs.declared.Records.{Records}
use Rattle.records.specs.Entered.{Usable, made, Entered}
use Rattle.records.specs.Gives.{Room, Makes}
use Rattle.sheet.specs.Cells.{cells_in, place_of, Inside}
use Rattle.sheet.specs.Perform.{product}
use Rattle.sheet.specs.declared.Ask.{Ask}
use Rattle.sheet.specs.declared.Cell.{Cell}
use Rattle.operations.specs.declared.Worksheet.{Worksheet}
use Rattle.operations.specs.Then.{makes_joined, makes_alone}
use Rattle.operations.specs.Ways.{sum_room, sum_first, sum_second, asked_ran, cell_below}
use Rattle.operations.specs.Worksheets.{Able, Carried}

-- What a cell holds is there.
pub held_below : {more : ℕ} {w : Worksheet} {o : List ℕ} → Able more w o → (c : Cell) → Inside c → {r : ℕ} → r ≡ cells_in w.cells c
    → r < formula w.records.variables w.records.count
held_below {more} {w} {o} able c i {r} e = cell_below w.records.variables w.records.base more w.cells o w.records.count c r able.ready i e

-- The product, or whatever else, has been made of what the cells of an operation hold.
module _ {w : Worksheet} {o : List ℕ} (x : Ask) (able : Able (cond x.joined 2 1) w o) (inside : Inside x.to × Inside x.a × Inside x.b)
    {a b : ℕ} (ea : a ≡ cells_in w.cells x.a) (eb : b ≡ cells_in w.cells x.b) {r : Records} {o' : List ℕ} {t : Reference}
    (kind : ℕ) (y : Entered (make w.records.variables kind a b) w.records o r o' t) (e : x.joined ≡ true) where
  -- Then, whatever its kind, there is room for the sum,
  pub sum_usable : Usable r o'
  sum_usable =
      let room : Room w.records.variables w.records.base r.count o' =
      sum_room w.records.variables w.records.base kind a b w.records.count o o' (made t r) y.makes x.joined e able.ready.table
      (held_below able x.a inside.1 ea) (held_below able x.b inside.2 eb) in
      record { room = rw (y.variables, y.base) room; noted = y.noted }

  -- and its arguments are there.
  pub sum_was : {was : ℕ} → was ≡ cells_in w.cells x.to → was < formula r.variables r.count
  sum_was {was} ew =
      rw y.variables
      (sum_first w.records.variables w.records.base kind a b w.records.count o o' (made t r) y.makes x.joined e able.ready.table
      (held_below able x.a inside.1 ea) (held_below able x.b inside.2 eb) was (held_below able x.to inside.0 ew))

  pub sum_product : t.number < formula r.variables r.count
  sum_product =
      rw y.variables
      (sum_second w.records.variables w.records.base kind a b w.records.count o o' (made t r) y.makes x.joined e able.ready.table
      (held_below able x.a inside.1 ea) (held_below able x.b inside.2 eb))

-- The product has been made.
module _ {w : Worksheet} {o : List ℕ} (x : Ask) (able : Able (cond x.joined 2 1) w o) (inside : Inside x.to × Inside x.a × Inside x.b)
    {a b : ℕ} (ea : a ≡ cells_in w.cells x.a) (eb : b ≡ cells_in w.cells x.b) {r : Records} {o' : List ℕ} {t : Reference}
    (y : Entered (make w.records.variables kind_and a b) w.records o r o' t) where
  -- The outcome of the operation, in its cell, carries it out.
  asked_carried : (was : ℕ) → was ≡ cells_in w.cells x.to → (q : Records) (o″ : List ℕ) (m : Reference)
      → Entered (product w.records.variables x.joined was a b) w.records o q o″ m
      → (w' : Worksheet) → w'.cells ≡ set w.cells (place_of x.to) m.number → w'.records ≡ q → Carried (x ∷ []) w o w' o″
  asked_carried was ew q o″ m entered w' put same =
      record {
        runs = rw same (asked_ran w.records.variables w.records.base x w.cells o o″ w.records.count (made m q) able.ready inside was a b ew ea eb
            entered.makes w'.cells put);
        noted = rw same entered.noted;
        base = rw same entered.base;
        variables = rw same entered.variables;
      }

  -- Where it is joined, its sum is the outcome;
  pub carried_joined : x.joined ≡ true → {was : ℕ} → was ≡ cells_in w.cells x.to → {q : Records} {o″ : List ℕ} {s : Reference}
      → Entered (make r.variables kind_or was t.number) r o' q o″ s
      → {w' : Worksheet} → w'.cells ≡ set w.cells (place_of x.to) s.number → w'.records ≡ q → Carried (x ∷ []) w o w' o″
  carried_joined e {was} ew {q} {o″} {s} z {w'} put same =
      let makes : Makes (make w.records.variables kind_or was t.number) w.records.base r.count o' o″ (made s q) = rw (y.variables, y.base) at z.makes in
      let entered : Entered (product w.records.variables x.joined was a b) w.records o q o″ s =
      record {
        makes = makes_joined w.records.base w.records.count o o' o″ (made t r) (made s q) w.records.variables was a b x.joined e y.makes makes;
        noted = z.noted;
        base = z.base ∙ y.base;
        variables = z.variables ∙ y.variables;
      } in
      asked_carried was ew q o″ s entered w' put same

  -- and else the product alone.
  pub carried_alone : x.joined ≡ false → {w' : Worksheet} → w'.cells ≡ set w.cells (place_of x.to) t.number → w'.records ≡ r
      → Carried (x ∷ []) w o w' o'
  carried_alone e {w'} put same =
      let was : ℕ = cells_in w.cells x.to in
      let entered : Entered (product w.records.variables x.joined was a b) w.records o r o' t =
      record {
        makes = makes_alone w.records.base w.records.count o o' (made t r) w.records.variables was a b x.joined e y.makes;
        noted = y.noted;
        base = y.base;
        variables = y.variables;
      } in
      asked_carried was refl r o' t entered w' put same
