-- Laws on the path rule.
use Rattle.std.proofs.Math.Bool.{So}
use mathlib.Core.List.{List, Memᴰ}
use Rattle.std.specs.Prelude.{ℕ, ◌<◌, length, get_or}
use Rattle.network.specs.declared.Switch.{Switch}
use Rattle.network.specs.Network.{Network}
use Rattle.paths.specs.Paths.{worth_in, Closed, Reached, source, through}

-- What holds of every source, and of v with u where a switch can be travelled from u to v, holds of every vertex that is reached.
pub reached_all : {net : Network} {setting : List ℕ} (P : ℕ → Type 0)
    → ((v : ℕ) → v < length net.starts → So (worth_in net setting (get_or net.starts v 0)) → P v)
    → ((w : Switch) → Memᴰ w net.switches → (u v : ℕ) → Closed (worth_in net setting) w u v → P u → P v)
    → {v : ℕ} → Reached net setting v → P v
reached_all P sources along (source {v} h t) = sources v h t
reached_all P sources along (through {u} {v} w m c r) = along w m u v c (reached_all P sources along r)
