-- Two outcomes that the promise of `finish` allows coincide: the length, and every byte of the lent buffer.
use Rattle.std.specs.Prelude.{◌≡◌, List, ℕ}
use Rattle.std.proofs.Common.{sym, ◌∙◌}
use Rattle.network.specs.declared.Sections.{Sections}
use Rattle.plan.specs.declared.Plan.{Plan}
use Rattle.sheet.specs.declared.Cell.{Cell}
use Rattle.writer.specs.Last.{Finished}

pub unique : (parts : Sections) (found : Plan) (cells : Cell → ℕ) (count : ℕ) (before x y : List ℕ) (r q : ℕ)
    → Finished parts found cells count before x r → Finished parts found cells count before y q → (r ≡ q) × (x ≡ y)
unique parts found cells count before x y r q c d = (c.long ∙ sym d.long, c.bytes ∙ sym d.bytes)
