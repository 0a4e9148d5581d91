-- Laws of carrying operations out.
use Rattle.std.specs.Prelude.{◌≡◌, refl, Bool, cond, List, [], ◌∷◌, ◌++◌, ℕ, ◌<◌, length}
use Rattle.std.proofs.Math.Bool.{true, false}
use Rattle.std.proofs.Common.{append_assoc, arith}
use Rattle.std.proofs.Math.ListN.{length-append}
use Rattle.form.specs.References.{kind_and, kind_or, formula}
use Rattle.form.specs.declared.Record.{Record}
use Rattle.formula.specs.Make.{old, make}
use Rattle.formula.specs.MakeLaws.{Orderly, Keeps}
use Rattle.formula.proofs.MakeLaws.{keeps_old, keeps_make}
use Rattle.sheet.specs.declared.Ask.{Ask}
use Rattle.sheet.specs.Perform.{Sheet, put, and_then, product, asked, perform}

-- One list after another.
pub perform_append : (p : ℕ) (xs ys : List Ask) (st : Sheet) → perform p (xs ++ ys) st ≡ perform p ys (perform p xs st)
unfolding perform
perform_append p [] ys st = refl
perform_append p (x ∷ xs) ys st = perform_append p xs ys (put x.to (asked p x st) st)

module _ (p : ℕ) (records : List Record) (orderly : Orderly p records) (was a b : ℕ) (hw : was < formula p (length records))
    (ha : a < formula p (length records)) (hb : b < formula p (length records)) where
  -- A product, and its sum where it is joined, keep the records in order.
  pub keeps_product : (joined : Bool) → Keeps p (cond joined 2 1) records (product p joined was a b records)
  unfolding product and_then
  keeps_product false = keeps_make p records orderly kind_and a b ha hb
  keeps_product true =
      let o = make p kind_and a b records in
      let x = keeps_make p records orderly kind_and a b ha hb in
      let l = length-append records o.added in
      let q = make p kind_or was o.reference (records ++ o.added) in
      let y = keeps_make p (records ++ o.added) x.orderly kind_or was o.reference (omega arith) (omega (arith, x.below)) in
      record {
        few = omega (arith, x.few, y.few, length-append o.added q.added);
        below = omega (arith, y.below, length-append o.added q.added);
        orderly = rw (← append_assoc) y.orderly;
      }

-- A label that is set, or old or new, is there.
pub keeps_label : (p : ℕ) (records : List Record) → Orderly p records → (was r : ℕ) → was < formula p (length records)
    → r < formula p (length records) → (t : Bool) → Keeps p (cond t 1 0) records (cond t (make p kind_or was r records) (old r))
keeps_label p records o was r hw hr true = keeps_make p records o kind_or was r hw hr
keeps_label p records o was r hw hr false = keeps_old p records o 0 r hr
