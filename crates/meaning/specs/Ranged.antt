-- Networks in which every reference is defined and every end is a vertex.
use mathlib.Core.List.{List, Memᴰ}
use Rattle.std.specs.Prelude.{ℕ, ◌<◌, length, get_or}
use Rattle.std.proofs.Common.{arith}
use Rattle.form.specs.References.{formula}
use Rattle.formula.specs.Make.{none}
use Rattle.laws.specs.Places.{members}
use Rattle.network.specs.Layout.{Layout, GivenIn, SwitchIn}
use Rattle.network.specs.Lists.{variables_length, givens_length, starts_length, switches_length, given_at_lem, start_at, switch_at_lem}
use Rattle.network.specs.Network.{Network, network_of}
use Rattle.network.specs.declared.Sections.{Sections}
use Rattle.network.specs.declared.Switch.{Switch}

-- How many references a network defines.
abbrev pub defined : Network → ℕ
defined net = formula (length net.variables) (length net.givens)

-- Each given formula, start and switch is in range.
pub record Ranged (net : Network) : Type 0 where
  pub givens : (k : ℕ) → k < length net.givens → GivenIn (formula (length net.variables) k) (get_or net.givens k none)
  pub starts : (v : ℕ) → v < length net.starts → get_or net.starts v 0 < defined net
  pub switches : (w : Switch) → Memᴰ w net.switches → SwitchIn (length net.starts) (defined net) w

-- It is so in an accepted file.
pub layout_ranged : (s : List ℕ) (parts : Sections) → Layout s parts → Ranged (network_of s)
layout_ranged s parts r =
    let p = variables_length r in
    let g = givens_length r in
    let n = starts_length r in
    record {
      givens = λ k h. let l : k < parts.givens = omega arith in rw (given_at_lem r k none l, p) (r.given k l);
      starts = λ v h. let l : v < parts.vertices = omega arith in rw (start_at r v l, p, g) (r.start v l);
      switches =
          members (SwitchIn (length (network_of s).starts) (defined (network_of s))) (record { first = 0; second = 0; there = 0; back = 0 })
          (network_of s).switches
          (λ k h. let l : k < parts.switches = omega (arith, switches_length r) in rw (switch_at_lem r k _ l, p, g, n) (r.switch k l));
    }
