-- The switches of a network, linked one by one, and their joins.
use Rattle.std.specs.Prelude.{◌≡◌, refl, List, ◌∷◌, ℕ, suc, ◌+◌, ◌*◌, ◌<◌, ◌≤◌, get_or}
use Rattle.std.proofs.Common.{sym, ◌∙◌, add-one, drop-cons}
use native.Mathlib.Omega.{arith}
use Rattle.std.proofs.Math.ListN.{length, drop}
use Rattle.std.proofs.Math.Seq.{drop-length}
use Rattle.links.specs.Switches.{link, joins_at, links_from, joins_from}
use Rattle.network.specs.Network.{side, network_of}
use Rattle.network.specs.Layout.{Layout, SwitchRead}
use Rattle.network.specs.Lists.{switches_length, switch_at_lem}
use Rattle.network.specs.declared.Sections.{Sections}
use Rattle.network.specs.declared.Switch.{Switch}
use Rattle.rows.specs.Table.{links_in}
use Rattle.rows.specs.Connect.{Connects}

-- The first k switches have been linked.
pub record Wiring (ws : List Switch) (start links : List ℕ) (k sum : ℕ) : Type 0 where
  pub within : k ≤ length ws
  pub graph : links_from (links_in links) (drop k ws) ≡ links_from (links_in start) ws
  pub joins : sum + joins_from (links_in links) (drop k ws) ≡ joins_from (links_in start) ws
  pub most : sum ≤ 2 * k
  pub long : length links ≡ side

-- All of them.
pub record Wired (ws : List Switch) (start links : List ℕ) (sum : ℕ) : Type 0 where
  pub graph : links_in links ≡ links_from (links_in start) ws
  pub joins : sum ≡ joins_from (links_in start) ws
  pub most : sum ≤ 2 * length ws
  pub long : length links ≡ side

module _ (ws : List Switch) (start : List ℕ) where
  pub wiring_none : length start ≡ side → Wiring ws start start 0 0
  wiring_none e = record { within = omega arith; graph = refl; joins = omega arith; most = omega arith; long = e }

  module _ (links : List ℕ) (k joins : ℕ) (inv : Wiring ws start links k joins) where
    wiring_more : k < length ws → (w : Switch) → w ≡ get_or ws k w → (exit : List ℕ) (r : ℕ) → Connects w links exit r
        → Wiring ws start exit (k + 1) (joins + r)
    unfolding links_from joins_from
    wiring_more h w e exit r c =
        let s : drop k ws ≡ w ∷ drop (suc k) ws = rw (← e) at (drop-cons ws k w h) in
        let g : links_from (link w (links_in links)) (drop (suc k) ws) ≡ links_from (links_in start) ws = rw s at inv.graph in
        let j : joins + (joins_at w (links_in links) + joins_from (link w (links_in links)) (drop (suc k) ws)) ≡ joins_from (links_in start) ws
        = rw s at inv.joins in
        record {
          within = omega arith;
          graph = rw (add-one, c.graph) g;
          joins = rw (add-one, c.graph, c.joins) (omega arith);
          most = omega (arith, c.most, inv.most);
          long = c.long;
        }

    wiring_all : length ws ≤ k → Wired ws start links joins
    unfolding links_from joins_from
    wiring_all h =
        let e : k ≡ length ws = omega arith in
        record {
          graph = rw (e, drop-length ws) at inv.graph;
          joins = let i = rw (e, drop-length ws) at inv.joins in omega arith;
          most = omega arith;
          long = inv.long;
        }

-- A turn of the loop over an accepted file, and its end, by what the loop's code knows.
module _ (s : List ℕ) (parts : Sections) (layout : Layout s parts) (start links : List ℕ) (k joins : ℕ)
    (inv : Wiring (network_of s).switches start links k joins) where
  pub wiring_turn : k < parts.switches → (w : Switch) → SwitchRead s parts k w → (exit : List ℕ) (r : ℕ) → Connects w links exit r
      → Wiring (network_of s).switches start exit (k + 1) (joins + r)
  wiring_turn h w read exit r c =
      wiring_more (network_of s).switches start links k joins inv (omega (arith, switches_length layout)) w
      (read.is ∙ sym (switch_at_lem layout k w h)) exit r c

  pub wiring_end : parts.switches ≤ k → Wired (network_of s).switches start links joins
  wiring_end h = wiring_all (network_of s).switches start links k joins inv (omega (arith, switches_length layout))
