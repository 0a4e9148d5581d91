-- The paths of a network's system are the network's own.
use Rattle.std.specs.Prelude.{◌≡◌, ◌↔◌, Bool, ◌&&◌, ◌||◌, ℕ, length}
use Rattle.std.proofs.Common.{inl, inr, ⊎_elim, arith, eq-eqb}
use Rattle.std.proofs.Math.Bool.{So}
use mathlib.Core.List.{List, Memᴰ}
use Rattle.laws.specs.Tests.{both_true, either_true}
use Rattle.links.specs.ListLaws.{up_to_in, up_to_bounds}
use Rattle.links.specs.Lists.{vertices}
use Rattle.links.specs.Pairs.{pair_both}
use Rattle.links.specs.Switches.{pair}
use Rattle.network.specs.Network.{Network}
use Rattle.network.specs.declared.Switch.{Switch}
use Rattle.paths.specs.Paths.{worth_in, Closed, Reached, source, through}
use Rattle.truth.specs.Booleans.{or_right, any_intro, any_elim}
use Rattle.truth.specs.Systems.{Leads, begins, goes}
use Rattle.meaning.specs.Ranged.{Ranged}
use Rattle.meaning.specs.System.{signal, system_of}

-- A pair's signal.
pair_so : (a b u v : ℕ) (t : Bool) → So (pair a b u v && t) → (u ≡ a) × (v ≡ b) × So t
pair_so a b u v t h =
    let x = both_true (pair a b u v) t h in
    let y = pair_both a b u v x.0 in
    (y.0, y.1, x.1)

so_pair : (a b u v : ℕ) (t : Bool) → (u ≡ a) × (v ≡ b) × So t → So (pair a b u v && t)
so_pair a b u v t h = rw (eq-eqb u a h.0, eq-eqb v b h.1) h.2

-- A signal is true where the switch can be travelled.
signal_closed : (value : ℕ → Bool) (u v : ℕ) (w : Switch) → So (signal value u v w) ↔ Closed value w u v
unfolding signal
signal_closed value u v w = (open_up, shut)
  where
    there : Bool
    there = pair w.first w.second u v && value w.there

    back : Bool
    back = pair w.second w.first u v && value w.back

    open_up : So (there || back) → Closed value w u v
    open_up h = ⊎_elim (λ a. inl (pair_so w.first w.second u v _ a)) (λ b. inr (pair_so w.second w.first u v _ b)) (either_true there back h)

    shut : Closed value w u v → So (there || back)
    shut (inl a) = rw (so_pair w.first w.second u v _ a)
    shut (inr b) = or_right there back (so_pair w.second w.first u v _ b)

module _ (net : Network) (ranged : Ranged net) (setting : List ℕ) where
  -- Both ends of a switch are vertices.
  far_end : (w : Switch) → Memᴰ w net.switches → (u v : ℕ) → Closed (worth_in net setting) w u v
      → Memᴰ v (vertices (length net.starts))
  far_end w m u v c =
      let ends = ranged.switches w m in
      up_to_in (length net.starts) 0 v (omega arith)
      (⊎_elim (λ a. omega (arith, a.1, ends.second)) (λ b. omega (arith, b.1, ends.first)) c)

  -- The path rule, in the system's words,
  reached_leads : {v : ℕ} → Reached net setting v → Leads (system_of net setting) (vertices (length net.starts)) v
  unfolding system_of
  reached_leads (source {v} h t) = begins (up_to_in (length net.starts) 0 v (omega arith) (omega arith)) t
  reached_leads (through {u} {v} w m c r) =
      goes (reached_leads r) (far_end w m u v c)
      (any_intro (signal (worth_in net setting) u v) net.switches m ((signal_closed (worth_in net setting) u v w).1 c))

  -- and back.
  leads_reached : {v : ℕ} → Leads (system_of net setting) (vertices (length net.starts)) v → Reached net setting v
  unfolding system_of
  leads_reached (begins {v} m t) = source {v = v} (omega (arith, up_to_bounds (length net.starts) 0 m)) t
  leads_reached (goes {u} {v} r m h) =
      let s = any_elim (signal (worth_in net setting) u v) net.switches h in
      through s.0 s.1 ((signal_closed (worth_in net setting) u v s.0).0 s.2) (leads_reached r)

  -- A path leads to a vertex by the network's switches exactly where one does in the network's system.
  pub leads_iff : (v : ℕ) → Leads (system_of net setting) (vertices (length net.starts)) v ↔ Reached net setting v
  leads_iff v = (leads_reached, reached_leads)
