-- Operations carried out on any carrier with a sum and a product, and read in truths.
use Rattle.std.specs.Prelude.{◌≡◌, Bool, cond, ◌&&◌, ◌||◌, List, [], ◌∷◌}
use Rattle.links.specs.Links.{Graph}
use Rattle.sheet.specs.Perform.{set_cell}
use Rattle.sheet.specs.declared.Ask.{Ask}
use Rattle.sheet.specs.declared.Cell.{Cell}
use Rattle.sheet.specs.declared.Cell.TheVariants.{Start, Label}
use Rattle.truth.specs.Systems.{System}

-- What cells may hold: anything with a sum and a product.
pub record Carrier (X : Type 0) : Type 0 where
  pub sum : X → X → X
  pub product : X → X → X

-- Truths, with or and and.
abbrev pub truths : Carrier Bool
truths = record { sum = ◌||◌; product = ◌&&◌ }

-- A reading in truths: a sum is read as or, a product as and. So is a truth as it is; its opposite, with or and and exchanged; and 'at least t', with
-- greatest and least.
pub record Reads {X : Type 0} (k : Carrier X) (h : X → Bool) : Type 0 where
  pub sums : (x y : X) → h (k.sum x y) ≡ h x || h y
  pub products : (x y : X) → h (k.product x y) ≡ h x && h y

-- What an ask gives: what its cell was and the product where it is joined, and else the product.
unfoldable pub given : {X : Type 0} → Carrier X → Ask → (Cell → X) → X
given k x cells =
    let t = k.product (cells x.a) (cells x.b) in
    cond x.joined (k.sum (cells x.to) t) t

-- One ask after another, each into its cell.
unfoldable pub carry : {X : Type 0} → Carrier X → List Ask → (Cell → X) → Cell → X
carry k [] cells = cells
carry k (x ∷ xs) cells = carry k xs (set_cell x.to (given k x cells) cells)

-- The system that cells say, read in truths: a label counts where there is a link.
abbrev pub system_in : Graph → (Cell → Bool) → System
system_in g t = record { starts = λ v. t (Start v); labels = λ u v. g u v && t (Label u v) }
