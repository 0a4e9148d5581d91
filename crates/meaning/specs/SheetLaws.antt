-- What is put on a sheet, and what operations carried out on it mean: the same operations carried out on truths.
use Rattle.std.specs.Prelude.{◌≡◌, refl, Bool, true, false, cond, ◌&&◌, ◌||◌, List, [], ◌∷◌, ◌++◌, ℕ, ◌+◌, ◌<◌, length}
use Rattle.std.proofs.Common.{ap, ◌∙◌, append_assoc, add-zero, add_assoc, arith}
use Rattle.std.proofs.Math.Path.{fun_ext}
use Rattle.std.proofs.Math.ListN.{length-append}
use Rattle.laws.specs.Tests.{by_test, by_choice}
use Rattle.form.specs.References.{kind_and, kind_or, formula}
use Rattle.form.specs.declared.Record.{Record}
use Rattle.formula.specs.Make.{Outcome, make}
use Rattle.formula.specs.MakeLaws.{Orderly, Keeps}
use Rattle.formula.proofs.MakeLaws.{keeps_make}
use Rattle.formula.specs.Worth.{worth}
use Rattle.formula.specs.WorthLaws.{operate_and, operate_or}
use Rattle.sheet.specs.Asks.{same_cell, work}
use Rattle.sheet.specs.Perform.{Sheet, set_cell, put, and_then, product, asked, perform}
use Rattle.sheet.specs.PerformLaws.{keeps_product}
use Rattle.sheet.specs.declared.Ask.{Ask}
use Rattle.sheet.specs.declared.Cell.{Cell}
use Rattle.truth.specs.Carry.{truths, given, carry}
use Rattle.meaning.specs.Made.{worth_kept, worth_made}
use Rattle.meaning.specs.Sheets.{worth_of, Standing}

-- A product, and its sum where it is joined, are worth and and or.
product_worth :
    (setting : List ℕ) (p : ℕ) → length setting ≡ p → (records : List Record) → Orderly p records →
    (was a b : ℕ) → was < formula p (length records) → a < formula p (length records) → b < formula p (length records) → (joined : Bool) →
    worth setting (records ++ (product p joined was a b records).added) (product p joined was a b records).reference
    ≡ cond joined
    (worth setting records was || worth setting records a && worth setting records b)
    (worth setting records a && worth setting records b)
unfolding product and_then
product_worth setting p sized records orderly was a b hw ha hb false = worth_made setting p sized records orderly kind_and a b ha hb ∙ operate_and _ _
product_worth setting p sized records orderly was a b hw ha hb true =
    let o = make p kind_and a b records in
    let l = length-append records o.added in
    let k = keeps_make p records orderly kind_and a b ha hb in
    let first = worth_made setting p sized records orderly kind_and a b ha hb ∙ operate_and _ _ in
    let second = worth_made setting p sized (records ++ o.added) k.orderly kind_or was o.reference (omega arith) (omega (arith, k.below)) in
    rw (← append_assoc) (rw (worth_kept setting p sized records o.added was hw, first, operate_or) at second)

module _ (p most : ℕ) (st : Sheet) (standing : Standing p most st) where
  -- A sheet stands after an outcome was put into a cell.
  pub put_standing : (more : ℕ) (to : Cell) (o : Outcome) → Keeps p more st.records o → Standing p (most + more) (put to o st)
  unfolding put set_cell
  put_standing more to o keeps =
      let l = length-append st.records o.added in
      record {
        few = omega (arith, standing.few, keeps.few);
        orderly = keeps.orderly;
        there = λ c.
            by_choice (λ (r : ℕ). r < formula p (length (st.records ++ o.added))) (same_cell to c) _ _
            (λ t. omega (arith, keeps.below))
            (λ t. omega (arith, standing.there c));
      }

  -- The cell is worth what the outcome's reference is, and every other cell keeps its worth.
  pub put_worth :
      (setting : List ℕ) → length setting ≡ p → (to : Cell) (o : Outcome) (b : Bool) →
      worth setting (st.records ++ o.added) o.reference ≡ b →
      (c : Cell) → worth_of setting (put to o st) c ≡ set_cell to b (worth_of setting st) c
  unfolding put set_cell worth_of
  put_worth setting sized to o b e c =
      by_test (same_cell to c) (λ t. rw t e) (λ t. rw t (worth_kept setting p sized st.records o.added (st.cells c) (standing.there c)))

  -- What an ask gives is there,
  asked_keeps : (x : Ask) → Keeps p (cond x.joined 2 1) st.records (asked p x st)
  unfolding asked
  asked_keeps x =
      keeps_product p st.records standing.orderly _ _ _ (standing.there x.to) (standing.there x.a) (standing.there x.b) x.joined

  -- and is worth what it gives on truths.
  asked_worth :
      (setting : List ℕ) → length setting ≡ p → (x : Ask) →
      worth setting (st.records ++ (asked p x st).added) (asked p x st).reference ≡ given truths x (worth_of setting st)
  unfolding asked given worth_of
  asked_worth setting sized x =
      product_worth setting p sized st.records standing.orderly _ _ _
      (standing.there x.to) (standing.there x.a) (standing.there x.b) x.joined

-- A sheet stands after operations, with at most their work in records added.
pub perform_standing : (p most : ℕ) (xs : List Ask) (st : Sheet) → Standing p most st → Standing p (most + work xs) (perform p xs st)
unfolding perform work
perform_standing p most [] st standing = rw add-zero standing
perform_standing p most (x ∷ xs) st standing =
    rw (← add_assoc)
    (perform_standing p (most + cond x.joined 2 1) xs (put x.to (asked p x st) st)
    (put_standing p most st standing (cond x.joined 2 1) x.to (asked p x st) (asked_keeps p most st standing x)))

-- Operations carried out on a sheet are worth the same operations carried out on truths:
perform_carry :
    (setting : List ℕ) (p most : ℕ) → length setting ≡ p → (xs : List Ask) (st : Sheet) → Standing p most st →
    worth_of setting (perform p xs st) ≡ carry truths xs (worth_of setting st)
unfolding perform carry
perform_carry setting p most sized [] st standing = refl
perform_carry setting p most sized (x ∷ xs) st standing =
    let o = asked p x st in
    let next = put_standing p most st standing (cond x.joined 2 1) x.to o (asked_keeps p most st standing x) in
    let e : worth_of setting (put x.to o st) ≡ set_cell x.to (given truths x (worth_of setting st)) (worth_of setting st) =
    fun_ext (put_worth p most st standing setting sized x.to o _ (asked_worth p most st standing setting sized x)) in
    perform_carry setting p (most + cond x.joined 2 1) sized xs (put x.to o st) next ∙ ap (carry truths xs) e

-- in each cell.
pub perform_worth :
    (setting : List ℕ) (p most : ℕ) → length setting ≡ p → (xs : List Ask) (st : Sheet) → Standing p most st →
    (c : Cell) → worth_of setting (perform p xs st) c ≡ carry truths xs (worth_of setting st) c
perform_worth setting p most sized xs st standing c = ap (λ (t : Cell → Bool). t c) (perform_carry setting p most sized xs st standing)
