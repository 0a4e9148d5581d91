-- One operation after another: what the two give.
use Rattle.std.specs.Prelude.{◌≡◌, Bool, true, false, ℕ, ◌+◌, ◌*◌, length}
use Rattle.std.proofs.Math.Path.{sym, ap}
use Rattle.std.proofs.Common.{◌∙◌, subst, arith}
use mathlib.Core.List.{List, ◌++◌, append_assoc}
use Rattle.std.proofs.Math.ListN.{length-append}
use Rattle.form.specs.References.{kind_and, kind_or}
use Rattle.form.specs.declared.Record.{Record}
use Rattle.formula.specs.Make.{Outcome, make}
use Rattle.records.specs.Gives.{Made}
use Rattle.records.specs.Bytes.{records_in, put_records}
use Rattle.records.specs.Laws.{puts_append}
use Rattle.records.specs.Gives.{Gives, Makes}
use Rattle.sheet.specs.Perform.{and_then, product}

module _ (base n : ℕ) (s t u : List ℕ) (m q : Made) where
  makes_then : (f : List Record → Outcome) (g : ℕ → List Record → Outcome) → Makes f base n s t m
      → Makes (g m.reference.number) base m.count t u q → Makes (and_then f g) base n s u q
  unfolding and_then
  makes_then f g x y =
      record {
        reference = z.reference;
        count = omega (arith, x.count, z.count, length-append o.added w.added);
        bytes = z.bytes ∙ place ∙ sym (puts_append s (base + 6 * n) o.added w.added);
        records = z.records ∙ ap (λ (r : List Record). r ++ w.added) x.records ∙ append_assoc (records_in s base n) o.added w.added;
      }
    where
      o : Outcome
      o = f (records_in s base n)

      w : Outcome
      w = g o.reference (records_in s base n ++ o.added)

      z : Gives w base m.count t u q
      z = subst (λ (r : List Record). Gives (g o.reference r) base m.count t u q) x.records
          (subst (λ (r : ℕ). Gives (g r (records_in t base m.count)) base m.count t u q) x.reference y)

      place : put_records t (base + 6 * m.count) w.added
          ≡ put_records (put_records s (base + 6 * n) o.added) (base + 6 * n + 6 * length o.added) w.added
      place = let e : base + 6 * m.count ≡ base + 6 * n + 6 * length o.added = omega (arith, x.count) in rw (← x.bytes, e)

  -- The product and its sum,
  pub makes_joined : (p was a b : ℕ) (joined : Bool) → joined ≡ true → Makes (make p kind_and a b) base n s t m
      → Makes (make p kind_or was m.reference.number) base m.count t u q → Makes (product p joined was a b) base n s u q
  unfolding product
  makes_joined p was a b joined e x y = rw e (makes_then (make p kind_and a b) (λ r. make p kind_or was r) x y)

-- and the product alone.
pub makes_alone : (base n : ℕ) (s t : List ℕ) (m : Made) (p was a b : ℕ) (joined : Bool) → joined ≡ false
    → Makes (make p kind_and a b) base n s t m → Makes (product p joined was a b) base n s t m
unfolding product
makes_alone base n s t m p was a b joined e x = rw e x
