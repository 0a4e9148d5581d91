-- The ways out of the functions that carry an operation out.
use Rattle.std.specs.Prelude.{◌≡◌, Bool, true, cond, List, [], ◌∷◌, ℕ, ◌≤◌, ◌<◌, length, get_or, set}
use Rattle.std.proofs.Common.{ap, ◌∙◌, arith, add-zero, length-set}
use Rattle.laws.specs.Places.{set_below}
use Rattle.laws.specs.Tests.{by_choice}
use Rattle.form.specs.References.{formula}
use Rattle.network.specs.Network.{side}
use Rattle.formula.specs.Make.{Outcome, make}
use Rattle.formula.specs.MakeLaws.{Keeps}
use Rattle.records.specs.Gives.{Made}
use Rattle.records.specs.Bytes.{records_in}
use Rattle.records.specs.Laws.{length_records}
use Rattle.records.specs.Gives.{Room, Gives, Makes}
use Rattle.records.specs.Grown.{Table, Grown, grown_given, grown_made, made_below, table_after, table_room}
use Rattle.sheet.specs.Asks.{work}
use Rattle.sheet.specs.Cells.{cell_count, cells_in, place_of, Inside, cell_at, cell_set}
use Rattle.sheet.specs.Perform.{Sheet, set_cell, put, product, asked, perform}
use Rattle.sheet.specs.PerformLaws.{keeps_product}
use Rattle.sheet.specs.declared.Ask.{Ask}
use Rattle.sheet.specs.declared.Cell.{Cell}
use Rattle.sheet.specs.declared.Cell.TheVariants.{Start, Label}
use Rattle.operations.specs.Runs.{sheet_in, Held, Ready, Runs, Ran}

-- Where a cell is.
pub record Placed (c : Cell) (r : ℕ) : Type 0 where
  pub is : r ≡ place_of c
  pub within : r < cell_count

pub placed_start : (c : Cell) (v : ℕ) → Inside c → c ≡ Start v → Placed c v
placed_start c v h e =
    let i : v < side = rw e at h in
    record { is = rw e; within = omega arith }

module _ (c : Cell) (u v : ℕ) (h : Inside c) (e : c ≡ Label u v) where
  pub label_row : u < side
  label_row = let i : (u < side) × (v < side) = rw e at h in i.0

  pub label_column : v < side
  label_column = let i : (u < side) × (v < side) = rw e at h in i.1

  pub placed_label : (r : ℕ) → Placed (Label u v) r → Placed c r
  placed_label r p = rw e p

-- What a cell holds.
pub reads_cell : (cells : List ℕ) (c : Cell) (at : ℕ) → Inside c → Placed c at → get_or cells at 0 ≡ cells_in cells c
reads_cell cells c at h e = rw e.is (cell_at cells c h)

pub writes_cell : (cells : List ℕ) (c : Cell) (at r : ℕ) → Placed c at → set cells at r ≡ set cells (place_of c) r
writes_cell cells c at r e = rw e.is

-- An outcome's reference has been put into a cell, and its record after the others.
pub runs_put : (p base most : ℕ) (o : Sheet → Outcome) (c : Cell) (cells s t : List ℕ) (n : ℕ) (m : Made) → Inside c → Held p n cells
    → Keeps p most (records_in s base n) (o (sheet_in cells s base n)) → Gives (o (sheet_in cells s base n)) base n s t m
    → Runs p base (λ st. put c (o st) st) most cells s n (set cells (place_of c) m.reference.number) t m.count
unfolding put sheet_in
runs_put p base most o c cells s t n m i held keeps gives =
    record {
      sheet = λ j. record { cells = (cell_set cells held.long m.reference.number c i ∙ ap (λ (r : ℕ). set_cell c r (cells_in cells)) gives.reference) j; records = gives.records j };
      grown = grown_given p base most n s t m _ keeps gives;
      held = record {
        long = length-set cells (place_of c) m.reference.number ∙ held.long;
        below = set_below cells (place_of c) m.reference.number (formula p m.count)
            (omega (arith, keeps.below, gives.reference, gives.count, length_records s base n))
            (λ k. omega (arith, held.below k, gives.count));
      };
    }

-- There is room for the product,
pub product_room : (p base n : ℕ) (s : List ℕ) (joined : Bool) → Table p base (cond joined 2 1) n s → Room p base n s
product_room p base n s joined table = table_room p base (cond joined 2 1) (by_choice (λ (k : ℕ). 1 ≤ k) joined 2 1 (λ t. omega arith) (λ t. omega arith)) table

-- then, whatever its kind, for its sum,
module _ (p base kind a b n : ℕ) (s t : List ℕ) (m : Made) (made : Makes (make p kind a b) base n s t m) (joined : Bool) (e : joined ≡ true)
    (table : Table p base (cond joined 2 1) n s) (ha : a < formula p n) (hb : b < formula p n) where
  grown : Grown p base 1 s n t m.count
  grown = grown_made p base kind a b table.orderly ha hb t m made

  pub sum_room : Room p base m.count t
  sum_room = table_room p base 1 (omega arith) (table_after p base 1 1 (rw e at table) grown)

  -- and both arguments of the sum are there.
  pub sum_first : (was : ℕ) → was < formula p n → was < formula p m.count
  sum_first was h = omega (arith, grown.more)

  pub sum_second : m.reference.number < formula p m.count
  sum_second = made_below p base kind a b table.orderly ha hb t m made

-- An operation has been carried out.
pub asked_ran : (p base : ℕ) (x : Ask) (cells s t : List ℕ) (n : ℕ) (m : Made) → Ready p base (cond x.joined 2 1) cells s n
    → Inside x.to × Inside x.a × Inside x.b
    → (was a b : ℕ) → was ≡ cells_in cells x.to → a ≡ cells_in cells x.a → b ≡ cells_in cells x.b
    → Makes (product p x.joined was a b) base n s t m
    → (written : List ℕ) → written ≡ set cells (place_of x.to) m.reference.number
    → Ran p base (x ∷ []) cells s n written t m.count
unfolding perform work asked sheet_in
asked_ran p base x cells s t n m r (it, ia, ib) was a b ew ea eb made written e =
    let l = length_records s base n in
    let below : (c : Cell) → Inside c → cells_in cells c < formula p (length (records_in s base n)) =
    (λ c i. omega (arith, l, r.held.below (place_of c), cell_at cells c i)) in
    let k = keeps_product p (records_in s base n) r.table.orderly (cells_in cells x.to) (cells_in cells x.a) (cells_in cells x.b)
    (below x.to it) (below x.a ia) (below x.b ib) x.joined in
    rw (e, add-zero) (runs_put p base (cond x.joined 2 1) (asked p x) x.to cells s t n m it r.held k (rw (ew, ea, eb) at made))

-- What a cell holds is there.
pub cell_below : (p base more : ℕ) (cells s : List ℕ) (n : ℕ) (c : Cell) (r : ℕ) → Ready p base more cells s n → Inside c → r ≡ cells_in cells c
    → r < formula p n
cell_below p base more cells s n c r ready i e = omega (arith, e, ready.held.below (place_of c), cell_at cells c i)
