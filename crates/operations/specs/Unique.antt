-- Two outcomes that the promise of a function over the sheet allows coincide: the number of records, every cell and every byte of the lent buffer.
use Rattle.std.specs.Prelude.{◌≡◌, List, ℕ}
use Rattle.std.proofs.Common.{sym, ap, ◌∙◌}
use Rattle.records.specs.Grown.{Grown}
use Rattle.records.specs.Unique.{grown_unique}
use Rattle.sheet.specs.Cells.{cells_unique}
use Rattle.sheet.specs.Perform.{Sheet}
use Rattle.operations.specs.Runs.{sheet_in, Held, Runs}

-- The sheet determines the array and the buffer.
pub sheet_unique : (p base most : ℕ) (out : List ℕ) (count : ℕ) (c d x y : List ℕ) (r q : ℕ) → sheet_in c x base r ≡ sheet_in d y base q
    → Grown p base most out count x r → Grown p base most out count y q → Held p r c → Held p q d → (r ≡ q) × (c ≡ d) × (x ≡ y)
unfolding sheet_in
sheet_unique p base most out count c d x y r q e g h a b =
    let same = grown_unique p base most out count x y r q g h (ap (λ (st : Sheet). st.records) e) in
    (same.0, cells_unique c d (ap (λ (st : Sheet). st.cells) e) a.long b.long, same.1)

-- For `ask` and `eliminate_from`, f performs a plan.
pub unique : (p base : ℕ) (f : Sheet → Sheet) (most : ℕ) (cells out : List ℕ) (count : ℕ) (c d x y : List ℕ) (r q : ℕ)
    → Runs p base f most cells out count c x r → Runs p base f most cells out count d y q → (r ≡ q) × (c ≡ d) × (x ≡ y)
unique p base f most cells out count c d x y r q a b =
    sheet_unique p base most out count c d x y r q (a.sheet ∙ sym b.sheet) a.grown b.grown a.held b.held
