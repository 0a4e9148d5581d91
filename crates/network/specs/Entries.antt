-- An entry that was read at its place is in range.
use Rattle.std.specs.Prelude.{◌≡◌, List, ℕ, ◌<◌}
use Rattle.form.specs.Numbers.{word_at}
use Rattle.form.specs.declared.Record.{Record}
use Rattle.network.specs.declared.Sections.{Sections}
use Rattle.network.specs.declared.Switch.{Switch}
use Rattle.network.specs.Network.{given_at, switch_at}
use Rattle.network.specs.Layout.{Layout, given_place, start_place, switch_place, GivenRead, StartRead, SwitchRead}

module _ {s : List ℕ} {parts : Sections} {k : ℕ} (l : Layout s parts) where
  pub given_read : (g : Record) → k < parts.givens → g ≡ given_at s (given_place parts k) → GivenRead s parts k g
  given_read g h e = record { is = e; range = rw e (l.given k h) }

  pub start_read : (r : ℕ) → k < parts.vertices → r ≡ word_at s (start_place parts k) → StartRead s parts k r
  start_read r h e = record { is = e; range = rw e (l.start k h) }

  pub switch_read : (w : Switch) → k < parts.switches → w ≡ switch_at s (switch_place parts k) → SwitchRead s parts k w
  switch_read w h e = record { is = e; range = rw e (l.switch k h) }
