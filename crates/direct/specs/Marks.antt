-- Marks: a truth for each vertex, whether it is marked, that spread through closed contacts.
use Rattle.std.specs.Prelude.{◌≡◌, Bool, true, false, cond, not, ◌&&◌, List, [], ◌∷◌, ℕ, zero, suc, ◌+◌, ◌*◌, ◌<◌, ◌≤◌, set}
use Rattle.std.proofs.Math.Path.{sym}
use Rattle.std.proofs.Common.{◌∙◌, add-one, drop-cons}
use native.Mathlib.Omega.{arith}
use Rattle.std.proofs.Math.ListN.{length, get_or, drop}
use Rattle.std.proofs.Math.Seq.{drop-length}
use Rattle.network.specs.declared.Sections.{Sections}
use Rattle.network.specs.declared.Switch.{Switch}
use Rattle.network.specs.Layout.{Layout, SwitchRead}
use Rattle.network.specs.Lists.{switches_length, switch_at_lem}
use Rattle.network.specs.Network.{network_of}

-- Vertex v is marked.
unfoldable pub marked : List Bool → ℕ → Bool
marked marks v = get_or marks v false

-- A contact from u to v with this label: it is closed, u is marked and v is not yet.
unfoldable pub spreads : (ℕ → Bool) → ℕ → ℕ → ℕ → List Bool → Bool
spreads value label u v marks = value label && (marked marks u && not (marked marks v))

-- Then v is marked,
unfoldable pub contact : (ℕ → Bool) → ℕ → ℕ → ℕ → List Bool → List Bool
contact value label u v marks = cond (spreads value label u v marks) (set marks v true) marks

-- and that is one new mark.
unfoldable pub contact_new : (ℕ → Bool) → ℕ → ℕ → ℕ → List Bool → ℕ
contact_new value label u v marks = cond (spreads value label u v marks) 1 0

-- A switch: the contact from its first end to its second, then the one back.
unfoldable pub travel : (ℕ → Bool) → Switch → List Bool → List Bool
travel value w marks = contact value w.back w.second w.first (contact value w.there w.first w.second marks)

-- How many marks are new then.
unfoldable pub travel_new : (ℕ → Bool) → Switch → List Bool → ℕ
travel_new value w marks =
    contact_new value w.there w.first w.second marks
    + contact_new value w.back w.second w.first (contact value w.there w.first w.second marks)

-- A sweep: the switches in order.
unfoldable pub sweep : (ℕ → Bool) → List Switch → List Bool → List Bool
sweep value [] marks = marks
sweep value (w ∷ ws) marks = sweep value ws (travel value w marks)

-- How many marks are new then.
unfoldable pub sweep_new : (ℕ → Bool) → List Switch → List Bool → ℕ
sweep_new value [] marks = 0
sweep_new value (w ∷ ws) marks = travel_new value w marks + sweep_new value ws (travel value w marks)

-- Sweeps, one after another.
unfoldable pub sweeps : (ℕ → Bool) → List Switch → ℕ → List Bool → List Bool
sweeps value ws zero marks = marks
sweeps value ws (suc n) marks = sweep value ws (sweeps value ws n marks)

-- What the program ensures of a contact: the marks afterwards, and how many are new;
pub record Contacted (value : ℕ → Bool) (label u v : ℕ) (before after : List Bool) (new : ℕ) : Type 0 where
  pub marks : after ≡ contact value label u v before
  pub count : new ≡ contact_new value label u v before
  pub most : new ≤ 1

-- the same of a switch,
pub record Travelled (value : ℕ → Bool) (w : Switch) (before after : List Bool) (new : ℕ) : Type 0 where
  pub marks : after ≡ travel value w before
  pub count : new ≡ travel_new value w before
  pub most : new ≤ 2

-- and of a sweep.
pub record Swept (value : ℕ → Bool) (ws : List Switch) (before after : List Bool) (new : ℕ) : Type 0 where
  pub marks : after ≡ sweep value ws before
  pub count : new ≡ sweep_new value ws before

-- Both directions of a switch.
pub travelled : (value : ℕ → Bool) (w : Switch) (before between after : List Bool) (there back : ℕ)
    → Contacted value w.there w.first w.second before between there
    → Contacted value w.back w.second w.first between after back
    → Travelled value w before after (there + back)
unfolding travel travel_new
travelled value w before between after there back p q =
    record {
      marks = rw (← p.marks) q.marks;
      count = rw (← p.marks) (omega (arith, p.count, q.count));
      most = omega (arith, p.most, q.most);
    }

-- A sweep after k switches: the switches that are left give the whole.
pub record Sweeping (value : ℕ → Bool) (ws : List Switch) (before marks : List Bool) (k new : ℕ) : Type 0 where
  pub within : k ≤ length ws
  pub left : sweep value (drop k ws) marks ≡ sweep value ws before
  pub count : new + sweep_new value (drop k ws) marks ≡ sweep_new value ws before
  pub most : new ≤ 2 * k

module _ (value : ℕ → Bool) (s : List ℕ) (parts : Sections) (layout : Layout s parts) (before marks : List Bool) (k new : ℕ)
    (inv : Sweeping value (network_of s).switches before marks k new) where
  pub sweeping_more :
      k < parts.switches →
      (w : Switch) →
      SwitchRead s parts k w →
      (after : List Bool) (r : ℕ) →
      Travelled value w marks after r →
      Sweeping value (network_of s).switches before after (k + 1) (new + r)
  unfolding sweep sweep_new
  sweeping_more h w read after r p =
      let ws = (network_of s).switches in
      let n = switches_length layout in
      let e : get_or ws k w ≡ w = switch_at_lem layout k w h ∙ sym read.is in
      let q : drop k ws ≡ w ∷ drop (suc k) ws = rw e at (drop-cons ws k w (omega arith)) in
      let l = rw q at inv.left in
      let m : new + (travel_new value w marks + sweep_new value (drop (suc k) ws) (travel value w marks)) ≡ sweep_new value ws before =
      rw q at inv.count in
      record {
        within = omega arith;
        left = rw (add-one, p.marks) l;
        count = rw (add-one, p.marks) (omega (arith, p.count));
        most = omega (arith, p.most, inv.most);
      }

  pub sweeping_all : parts.switches ≤ k → Swept value (network_of s).switches before marks new
  unfolding sweep sweep_new
  sweeping_all h =
      let ws = (network_of s).switches in
      let e : k ≡ length ws = omega (arith, switches_length layout, inv.within) in
      record {
        marks = rw (e, drop-length ws) at inv.left;
        count = let i = rw (e, drop-length ws) at inv.count in omega arith;
      }
