-- The sheet from which the elimination starts: starts and labels translated, labels joined.
use Rattle.std.specs.Prelude.{cond, List, [], ◌∷◌, ℕ, eqb, length, get_or}
use Rattle.form.specs.References.{kind_or, constant_false}
use Rattle.formula.specs.Make.{old, make}
use Rattle.formula.specs.Givens.{Passed, unpassed, translate, pass}
use Rattle.links.specs.Links.{Graph}
use Rattle.links.specs.Switches.{link, no_links}
use Rattle.network.specs.Network.{Network}
use Rattle.network.specs.declared.Switch.{Switch}
use Rattle.sheet.specs.Perform.{Sheet, put}
use Rattle.sheet.specs.declared.Cell.{Cell}
use Rattle.sheet.specs.declared.Cell.TheVariants.{Start, Label}

-- Given formulas pass through the rules in order.
unfoldable pub passed : Network → Passed
passed net = pass (length net.variables) net.givens unpassed

-- A network's reference as the result's.
unfoldable pub translated : Network → ℕ → ℕ
translated net r = translate (length net.variables) (passed net).references r

-- Starting formulas, translated; there are no labels yet.
unfoldable pub starting : Network → Cell → ℕ
starting net (Start v) = translated net (get_or net.starts v constant_false)
starting net (Label u v) = constant_false

-- The label from u to v becomes r where the pair has no label yet, and else old or new.
unfoldable pub set_or_join : ℕ → Graph → ℕ → ℕ → ℕ → Sheet → Sheet
set_or_join p g u v r st = put (Label u v) (cond (g u v) (make p kind_or (st.cells (Label u v)) r st.records) (old r)) st

-- The first switch of a pair sets both labels. Each later one joins: old or new, first end to second end, then back. A switch with equal ends is
-- ignored.
unfoldable pub labelled : ℕ → Graph → Switch → Sheet → Sheet
labelled p g w st =
    cond (eqb w.first w.second) st
    (set_or_join p g w.second w.first w.back (set_or_join p g w.first w.second w.there st))

-- Labels are translated.
unfoldable pub translate_switch : ℕ → List ℕ → Switch → Switch
translate_switch p references w =
    record { first = w.first; second = w.second; there = translate p references w.there; back = translate p references w.back }

-- One switch of a network.
unfoldable pub wire : Network → Graph → Switch → Sheet → Sheet
wire net g w = let p = length net.variables in labelled p g (translate_switch p (passed net).references w)

-- All switches, in order; g has the links of those before.
unfoldable pub wire_all : Network → Graph → List Switch → Sheet → Sheet
wire_all net g [] st = st
wire_all net g (w ∷ ws) st = wire_all net (link w g) ws (wire net g w st)

-- The sheet from which the elimination starts.
unfoldable pub wired : Network → Sheet
wired net = wire_all net no_links net.switches (record { cells = starting net; records = (passed net).records })
