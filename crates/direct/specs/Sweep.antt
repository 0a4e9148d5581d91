-- Marks that a sweep adds nothing to are exactly what paths reach from the first marks.
use Rattle.std.specs.Prelude.{◌≡◌, ◌≢◌, ◌⊎◌, Bool, true, false, cond, eqb, length, get_or, set}
use Rattle.std.proofs.Math.Path.{refl, ap, sym}
use Rattle.std.proofs.Common.{◌∙◌, inl, inr, length-set, get_or-set_other}
use Rattle.std.proofs.Math.Logic.{⊎_elim}
use Rattle.std.proofs.Math.Bool.{So, false≢true}
use mathlib.Core.List.Memᴰ
use mathlib.Core.List.{List, [], ◌∷◌, Memᴰ}
use Prim.Native.Nat.{ℕ, zero, suc, ◌+◌, ◌<◌}
use native.Mathlib.Omega.{arith}
use borrow.Author.Tests.{eqb-false, ne_eqb, not-true}
use Rattle.laws.specs.Places.{members}
use Rattle.laws.specs.Tests.{both_true, by_test, by_same}
use Rattle.network.specs.declared.Sections.{Sections}
use Rattle.network.specs.declared.Switch.{Switch}
use Rattle.network.specs.Layout.{Layout, Within}
use Rattle.network.specs.Lists.{switches_length, switch_at_lem}
use Rattle.network.specs.Network.{edition, side, network_of}
use Rattle.paths.specs.Paths.{Closed}
use Rattle.direct.specs.Marks.{marked, spreads, contact, contact_new, travel, travel_new, sweep, sweep_new, sweeps, Swept}

-- A set of vertices that no closed contact leaves.
abbrev pub Full : (ℕ → Bool) → List Switch → (ℕ → Type 0) → Type 0
Full value ws P = (w : Switch) → Memᴰ w ws → (u v : ℕ) → Closed value w u v → P u → P v

-- A mark that is set.
marked_set : (marks : List Bool) (u v : ℕ) → So (marked (set marks u true) v) → (v ≡ u) ⊎ So (marked marks v)
unfolding marked
marked_set marks u v h = by_same v u (λ e. inl e) (λ d. inr (rw (get_or-set_other marks u v true false d) at h))

marked_other : (marks : List Bool) (u v : ℕ) → v ≢ u → So (marked marks v) → So (marked (set marks u true) v)
unfolding marked
marked_other marks u v d h = rw (get_or-set_other marks u v true false d) h

-- How many are not marked.
unfoldable pub unmarked : List Bool → ℕ
unmarked [] = 0
unmarked (x ∷ xs) = cond x 0 1 + unmarked xs

unmarked_set : (marks : List Bool) (v : ℕ) → v < length marks → get_or marks v false ≡ false → unmarked (set marks v true) + 1 ≡ unmarked marks
unfolding unmarked
unmarked_set [] v h e = absurd (omega arith)
unmarked_set (x ∷ xs) zero h e = rw e (omega arith)
unmarked_set (x ∷ xs) (suc v) h e = omega (arith, unmarked_set xs v (omega arith) e)

-- One contact.
module _ (value : ℕ → Bool) (label a b : ℕ) (marks : List Bool) where
  spreads_parts : So (spreads value label a b marks) → So (value label) × (So (marked marks a) × (marked marks b ≡ false))
  unfolding spreads
  spreads_parts t = let p = both_true _ _ t in let q = both_true _ _ p.1 in (p.0, (q.0, not-true _ q.1))

  contact_sound : (P : ℕ → Type 0) → (So (value label) → P a → P b) → ((v : ℕ) → So (marked marks v) → P v)
      → (v : ℕ) → So (marked (contact value label a b marks) v) → P v
  unfolding contact
  contact_sound P step had v = by_test (spreads value label a b marks)
      (λ t. rw t (λ h. let p = spreads_parts t in ⊎_elim (λ e. rw e (step p.0 (had a p.1.0))) (λ k. had v k) (marked_set marks b v h)))
      (λ t. rw t (had v))

  contact_grows : (v : ℕ) → So (marked marks v) → So (marked (contact value label a b marks) v)
  unfolding contact
  contact_grows v h = by_test (spreads value label a b marks)
      (λ t. rw t (marked_other marks b v (λ e. false≢true (sym (spreads_parts t).1.1 ∙ (rw e at h))) h))
      (λ t. rw t h)

  contact_length : length (contact value label a b marks) ≡ length marks
  unfolding contact
  contact_length = by_test (spreads value label a b marks) (λ t. rw t (length-set marks b true)) (λ t. rw t)

  contact_falls : b < length marks → unmarked (contact value label a b marks) + contact_new value label a b marks ≡ unmarked marks
  unfolding contact contact_new marked
  contact_falls h = by_test (spreads value label a b marks)
      (λ t. rw t (unmarked_set marks b h (spreads_parts t).1.1))
      (λ t. rw t (omega arith))

  contact_still : contact_new value label a b marks ≡ 0 → contact value label a b marks ≡ marks
  unfolding contact contact_new
  contact_still e = by_test (spreads value label a b marks) (λ t. absurd (omega (arith, rw t at e))) (λ t. rw t)

  contact_full : contact_new value label a b marks ≡ 0 → So (value label) → So (marked marks a) → So (marked marks b)
  unfolding contact_new spreads
  contact_full e h k = by_test (marked marks b) (λ t. t) (λ t. absurd (omega (arith, rw (h, k, t) at e)))

-- A switch.
module _ (value : ℕ → Bool) (w : Switch) (marks : List Bool) where
  travel_sound : (P : ℕ → Type 0) → ((u v : ℕ) → Closed value w u v → P u → P v) → ((v : ℕ) → So (marked marks v) → P v)
      → (v : ℕ) → So (marked (travel value w marks) v) → P v
  unfolding travel
  travel_sound P step had =
      contact_sound value w.back w.second w.first _ P (λ h r. step w.second w.first (inr (refl, refl, h)) r)
      (contact_sound value w.there w.first w.second marks P (λ h r. step w.first w.second (inl (refl, refl, h)) r) had)

  travel_grows : (v : ℕ) → So (marked marks v) → So (marked (travel value w marks) v)
  unfolding travel
  travel_grows v h = contact_grows value w.back w.second w.first _ v (contact_grows value w.there w.first w.second marks v h)

  travel_length : length (travel value w marks) ≡ length marks
  unfolding travel
  travel_length = contact_length value w.back w.second w.first _ ∙ contact_length value w.there w.first w.second marks

  travel_falls : w.first < length marks → w.second < length marks → unmarked (travel value w marks) + travel_new value w marks ≡ unmarked marks
  unfolding travel travel_new
  travel_falls h l =
      let f = contact_falls value w.there w.first w.second marks l in
      let n = contact_length value w.there w.first w.second marks in
      let g = contact_falls value w.back w.second w.first (contact value w.there w.first w.second marks) (omega arith) in
      omega arith

  travel_still :
      travel_new value w marks ≡ 0 →
      (travel value w marks ≡ marks) × ((u v : ℕ) → Closed value w u v → So (marked marks u) → So (marked marks v))
  unfolding travel travel_new
  travel_still e =
      let f : contact_new value w.there w.first w.second marks ≡ 0 = omega arith in
      let s = contact_still value w.there w.first w.second marks f in
      let r : contact_new value w.back w.second w.first (contact value w.there w.first w.second marks) ≡ 0 = omega arith in
      let g : contact_new value w.back w.second w.first marks ≡ 0 = rw s at r in (
        rw s (contact_still value w.back w.second w.first marks g),
        λ u v c. ⊎_elim
            (λ q. rw (q.0, q.1) (contact_full value w.there w.first w.second marks f q.2))
            (λ q. rw (q.0, q.1) (contact_full value w.back w.second w.first marks g q.2)) c,
      )

-- A sweep.
module _ (value : ℕ → Bool) where
  sweep_sound : (ws : List Switch) (marks : List Bool) (P : ℕ → Type 0) → Full value ws P → ((v : ℕ) → So (marked marks v) → P v)
      → (v : ℕ) → So (marked (sweep value ws marks) v) → P v
  unfolding sweep
  sweep_sound [] marks P full had = had
  sweep_sound (w ∷ ws) marks P full had =
      sweep_sound ws (travel value w marks) P (λ x m. full x (Memᴰ.tail m)) (travel_sound value w marks P (full w (Memᴰ.head refl)) had)

  sweep_grows : (ws : List Switch) (marks : List Bool) (v : ℕ) → So (marked marks v) → So (marked (sweep value ws marks) v)
  unfolding sweep
  sweep_grows [] marks v h = h
  sweep_grows (w ∷ ws) marks v h = sweep_grows ws (travel value w marks) v (travel_grows value w marks v h)

  sweep_length : (ws : List Switch) (marks : List Bool) → length (sweep value ws marks) ≡ length marks
  unfolding sweep
  sweep_length [] marks = refl
  sweep_length (w ∷ ws) marks = sweep_length ws (travel value w marks) ∙ travel_length value w marks

  sweep_falls : (ws : List Switch) (marks : List Bool) → ((w : Switch) → Memᴰ w ws → (w.first < length marks) × (w.second < length marks))
      → unmarked (sweep value ws marks) + sweep_new value ws marks ≡ unmarked marks
  unfolding sweep sweep_new
  sweep_falls [] marks inside = omega arith
  sweep_falls (w ∷ ws) marks inside =
      let i = inside w (Memᴰ.head refl) in
      let f = travel_falls value w marks i.0 i.1 in
      let r = sweep_falls ws (travel value w marks) (λ x m. rw (travel_length value w marks) (inside x (Memᴰ.tail m))) in
      omega arith

  sweep_still : (ws : List Switch) (marks : List Bool) → sweep_new value ws marks ≡ 0
      → (sweep value ws marks ≡ marks) × Full value ws (λ v. So (marked marks v))
  unfolding sweep sweep_new
  sweep_still [] marks e = (refl, λ w m. absurd (Memᴰ.not-nil m))
  sweep_still (w ∷ ws) marks e =
      let f : travel_new value w marks ≡ 0 = omega arith in
      let s = travel_still value w marks f in
      let g : sweep_new value ws (travel value w marks) ≡ 0 = omega arith in
      let r = sweep_still ws marks (rw s.0 at g) in
      (rw s.0 r.0, λ x m. ⊎_elim (λ q. rw q s.1) (λ n. r.1 x n) (Memᴰ.cases_cons m))

  sweeps_sound : (ws : List Switch) (n : ℕ) (marks : List Bool) (P : ℕ → Type 0) → Full value ws P → ((v : ℕ) → So (marked marks v) → P v)
      → (v : ℕ) → So (marked (sweeps value ws n marks) v) → P v
  unfolding sweeps
  sweeps_sound ws zero marks P full had = had
  sweeps_sound ws (suc n) marks P full had = sweep_sound ws (sweeps value ws n marks) P full (sweeps_sound ws n marks P full had)

  sweeps_grows : (ws : List Switch) (n : ℕ) (marks : List Bool) (v : ℕ) → So (marked marks v) → So (marked (sweeps value ws n marks) v)
  unfolding sweeps
  sweeps_grows ws zero marks v h = h
  sweeps_grows ws (suc n) marks v h = sweep_grows ws (sweeps value ws n marks) v (sweeps_grows ws n marks v h)

-- Sweeps until one marks nothing.
pub record Spread (value : ℕ → Bool) (ws : List Switch) (before after : List Bool) : Type 0 where
  pub turns : ℕ
  pub marks : after ≡ sweeps value ws turns before
  pub still : sweep_new value ws after ≡ 0

-- The marks then lie in every full set that holds the first marks,
pub spread_sound : {value : ℕ → Bool} {ws : List Switch} {before after : List Bool} → Spread value ws before after
    → (P : ℕ → Type 0) → Full value ws P → ((v : ℕ) → So (marked before v) → P v) → (v : ℕ) → So (marked after v) → P v
spread_sound {value} {ws} {before} spread P full had v = rw spread.marks (sweeps_sound value ws spread.turns before P full had v)

-- hold the first marks,
pub spread_grows : {value : ℕ → Bool} {ws : List Switch} {before after : List Bool} → Spread value ws before after
    → (v : ℕ) → So (marked before v) → So (marked after v)
spread_grows {value} {ws} {before} spread v h = rw spread.marks (sweeps_grows value ws spread.turns before v h)

-- and are full.
pub spread_full : {value : ℕ → Bool} {ws : List Switch} {before after : List Bool} → Spread value ws before after
    → Full value ws (λ v. So (marked after v))
spread_full {value} {ws} {before} {after} spread = (sweep_still value ws after spread.still).1

-- The loop: once the last sweep has marked nothing, none will.
pub record Spreading (value : ℕ → Bool) (ws : List Switch) (before marks : List Bool) (new : ℕ) : Type 0 where
  pub turns : ℕ
  pub marked_by : marks ≡ sweeps value ws turns before
  pub still : new ≡ 0 → sweep_new value ws marks ≡ 0
  pub long : length marks ≡ side

-- What is left to do: marks to set, and a last sweep that sets none.
unfoldable pub pending : List Bool → ℕ → ℕ
pending marks new = unmarked marks + cond (eqb new 0) 0 1

module _ (value : ℕ → Bool) (s : List ℕ) (parts : Sections) (layout : Layout s parts) (within : Within edition parts) (before : List Bool) where
  ends : (w : Switch) → Memᴰ w (network_of s).switches → (w.first < side) × (w.second < side)
  ends =
      members (λ w. (w.first < side) × (w.second < side))
      (record { first = 0; second = 0; there = 0; back = 0 }) (network_of s).switches
      (λ k h. let l : k < parts.switches = omega (arith, switches_length layout) in
      rw (switch_at_lem layout k _ l) (let r = layout.switch k l in (omega (arith, r.first), omega (arith, r.second))))

  pub spreading_none : length before ≡ side → Spreading value (network_of s).switches before before 1
  unfolding sweeps
  spreading_none l = record { turns = 0; marked_by = refl; still = λ e. absurd (omega arith); long = l }

  module _ (marks : List Bool) (new : ℕ) (inv : Spreading value (network_of s).switches before marks new) where
    pub spreading_more :
        (after : List Bool) (r : ℕ) →
        Swept value (network_of s).switches marks after r →
        Spreading value (network_of s).switches before after r
    unfolding sweeps
    spreading_more after r t =
        let ws = (network_of s).switches in
        record {
          turns = suc inv.turns;
          marked_by = t.marks ∙ ap (sweep value ws) inv.marked_by;
          still = λ e. let n : sweep_new value ws marks ≡ 0 = sym t.count ∙ e in rw (t.marks, (sweep_still value ws marks n).0) n;
          long = rw t.marks (sweep_length value ws marks ∙ inv.long);
        }

    pub spreading_less :
        (new ≡ 0 → ⊥) →
        (after : List Bool) (r : ℕ) →
        Swept value (network_of s).switches marks after r →
        pending after r < pending marks new
    unfolding pending
    spreading_less d after r t =
        let f = sweep_falls value (network_of s).switches marks (λ w m. rw inv.long (ends w m)) in
        rw (ne_eqb new 0 d, t.marks) (by_test (eqb r 0)
        (λ q. rw q (omega (arith, t.count)))
        (λ q. rw q (let k = eqb-false r 0 q in omega (arith, t.count))))
