-- What one switch does to the meaning of a sheet.
use Rattle.std.specs.Prelude.{◌≡◌, ◌≢◌, ◌&&◌, ◌||◌, List, ℕ, ◌+◌, length}
use Rattle.links.specs.Links.{Graph}
use Rattle.links.specs.Switches.{link, joins_at}
use Rattle.network.specs.Network.{Network}
use Rattle.network.specs.declared.Switch.{Switch}
use Rattle.paths.specs.Paths.{worth_in}
use Rattle.sheet.specs.Perform.{Sheet}
use Rattle.sheet.specs.declared.Cell.TheVariants.{Start, Label}
use Rattle.meaning.specs.Labels.{Wiring}
use Rattle.meaning.specs.Ranged.{Ranged}
use Rattle.meaning.specs.Sheets.{worth_of}
use Rattle.meaning.specs.System.{signal}

module _ (net : Network) (ranged : Ranged net) (setting : List ℕ) (sized : length setting ≡ length net.variables) where
  -- What one switch does: a record for each join, no start, and its signal added to the label of each pair of different vertices.
  pub record Wires (g : Graph) (w : Switch) (most : ℕ) (st after : Sheet) : Type 0 where
    pub wiring : Wiring net (most + joins_at w g) after
    pub start : (v : ℕ) → worth_of setting after (Start v) ≡ worth_of setting st (Start v)
    pub label : (u v : ℕ) → u ≢ v
        → link w g u v && worth_of setting after (Label u v) ≡ (g u v && worth_of setting st (Label u v)) || signal (worth_in net setting) u v w
