-- The system once a pivot is eliminated leads to the same vertices.
use Rattle.std.specs.Prelude.{◌≡◌, ◌&&◌, ℕ}
use Rattle.std.proofs.Common.{sym}
use Rattle.std.proofs.Math.Logic.{inl, inr, ⊎_elim}
use Rattle.std.proofs.Math.Bool.{So}
use mathlib.Core.List.{List, Memᴰ}
use Rattle.laws.specs.Tests.{both_true, either_true, by_same}
use Rattle.links.specs.Lists.{without}
use Rattle.links.specs.ListLaws.{without_in, in_without}
use Rattle.truth.specs.Booleans.{or_right}
use Rattle.truth.specs.Systems.{System, Leads, begins, goes}
use Rattle.truth.specs.Solutions.{leads_in}
use Rattle.truth.specs.Past.{past, Still, AtPivot}

module _ (p : ℕ) (s : System) (vs : List ℕ) where
  -- Where a path past p leads, a path leads.
  pub past_sound : Memᴰ p vs → {v : ℕ} → Still p s vs v → Leads s vs v
  unfolding past
  past_sound n (begins {v} m h) =
      let k = (without_in p vs m).0 in
      ⊎_elim (begins k)
      (λ t. let parts = both_true (s.starts p) (s.labels p v) t in goes (begins n parts.0) k parts.1)
      (either_true (s.starts v) (s.starts p && s.labels p v) h)
  past_sound n (goes {u} {v} r m h) =
      let k = (without_in p vs m).0 in
      ⊎_elim (goes (past_sound n r) k)
      (λ t. let parts = both_true (s.labels u p) (s.labels p v) t in goes (goes (past_sound n r) n parts.0) k parts.1)
      (either_true (s.labels u v) (s.labels u p && s.labels p v) h)

  -- So it does to the pivot.
  pub pivot_sound : Memᴰ p vs → AtPivot p s vs → Leads s vs p
  pivot_sound n (inl h) = begins n h
  pivot_sound n (inr t) = goes (past_sound n t.1) n t.2

  -- A label from the pivot leads on to a vertex that remains.
  from_pivot : {v : ℕ} → AtPivot p s vs → Memᴰ v (without p vs) → So (s.labels p v) → Still p s vs v
  unfolding past
  from_pivot {v} (inl e) n h = begins n (or_right (s.starts v) (s.starts p && s.labels p v) (rw (e, h)))
  from_pivot {v} (inr t) n h = goes t.1 n (or_right (s.labels t.0 v) (s.labels t.0 p && s.labels p v) (rw (t.2, h)))

  -- Where a path leads, a path past p leads too, or it is the pivot. Both at once, for the path may go through the pivot.
  pub past_complete : {v : ℕ} → Leads s vs v → (v ≡ p → AtPivot p s vs) × (Memᴰ v (without p vs) → Still p s vs v)
  unfolding past
  past_complete (begins m h) = ((λ e. inl (rw e at h)), (λ n. begins n (rw h)))
  past_complete (goes {u} {v} r m h) =
      by_same p u
      (λ e. let a = (past_complete r).0 (sym e) in ((λ q. a), (λ n. from_pivot a n (rw (← e) at h))))
      (λ d. let k = (past_complete r).1 (in_without p vs (leads_in r) d) in ((λ q. inr (u, k, rw q at h)), (λ n. goes k n (rw h))))
