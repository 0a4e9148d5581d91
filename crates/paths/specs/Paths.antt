-- The path rule of demand 2, over a network's own switches. Nothing here knows of links, joins or elimination.
use Rattle.std.specs.Prelude.{◌≡◌, ◌⊎◌, Bool, ℕ, ◌<◌, length, get_or}
use Rattle.std.proofs.Math.Bool.{So}
use mathlib.Core.List.{List, Memᴰ}
use Rattle.formula.specs.Worth.{worth}
use Rattle.network.specs.declared.Switch.{Switch}
use Rattle.network.specs.Network.{Network}

-- What a reference of a network's file is worth under a setting.
abbrev pub worth_in : Network → List ℕ → ℕ → Bool
worth_in net setting = worth setting net.givens

-- The switch w can be travelled from u to v: from its first end to its second or back, with a label true in that direction.
abbrev pub Closed : (ℕ → Bool) → Switch → ℕ → ℕ → Type 0
Closed value w u v =
    ((u ≡ w.first) × (v ≡ w.second) × So (value w.there)) ⊎ ((u ≡ w.second) × (v ≡ w.first) × So (value w.back))

-- Under a setting, some path, possibly of no contacts, leads to v from a vertex whose own starting formula is true, through contacts whose labels are
-- true in the direction travelled.
pub data Reached (net : Network) (setting : List ℕ) : ℕ → Type 0 where
  source : {v : ℕ} → v < length net.starts → So (worth_in net setting (get_or net.starts v 0)) → Reached net setting v
  through : {u v : ℕ} (w : Switch) → Memᴰ w net.switches → Closed (worth_in net setting) w u v → Reached net setting u → Reached net setting v
