-- Two outcomes that the promise of `wire_sheet` allows coincide: the number of records, every cell, every link and every byte of the lent buffer.
use Rattle.std.specs.Prelude.{◌≡◌, List, ℕ, ◌+◌}
use Rattle.std.proofs.Common.{sym, ◌∙◌}
use Rattle.links.specs.Switches.{joins_of}
use Rattle.network.specs.Network.{network_of}
use Rattle.network.specs.declared.Sections.{Sections}
use Rattle.operations.specs.Unique.{sheet_unique}
use Rattle.rows.specs.Unique.{table_unique}
use Rattle.wiring.specs.Sheet.{WiredIn}

pub unique : (file : List ℕ) (parts : Sections) (base : ℕ) (out cells cells' links links' x y : List ℕ) (r q : ℕ)
    → WiredIn file parts base out cells links x r → WiredIn file parts base out cells' links' y q
    → (r ≡ q) × (cells ≡ cells') × (links ≡ links') × (x ≡ y)
unique file parts base out cells cells' links links' x y r q c d =
    let same = sheet_unique parts.variables base (parts.givens + joins_of (network_of file).switches) out 0 cells cells' x y r q
    (c.sheet ∙ sym d.sheet) c.grown d.grown c.held d.held in
    (same.0, same.1, table_unique links links' (c.graph ∙ sym d.graph) (c.long ∙ sym d.long), same.2)
