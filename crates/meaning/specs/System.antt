-- The system of Boolean equations of a network under a setting (000, section 3).
use Rattle.std.specs.Prelude.{Bool, ◌&&◌, ◌||◌, ℕ, get_or}
use mathlib.Core.List.{List}
use Rattle.links.specs.Switches.{pair}
use Rattle.network.specs.Network.{Network}
use Rattle.network.specs.declared.Switch.{Switch}
use Rattle.paths.specs.Paths.{worth_in}
use Rattle.truth.specs.Systems.{System, any_of}

-- What controls the switch w from u to v.
unfoldable pub signal : (ℕ → Bool) → ℕ → ℕ → Switch → Bool
signal value u v w =
    (pair w.first w.second u v && value w.there) || (pair w.second w.first u v && value w.back)

-- A(u, v) is the sum of the signals that control switches from u to v; b(v) is the start of v.
unfoldable pub system_of : Network → List ℕ → System
system_of net setting =
    record {
      starts = λ v. worth_in net setting (get_or net.starts v 0);
      labels = λ u v. any_of (signal (worth_in net setting) u v) net.switches;
    }
