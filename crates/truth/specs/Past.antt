-- The system once a pivot is eliminated, and systems that lead to the same vertices.
use Rattle.std.specs.Prelude.{◌≡◌, ◌≢◌, ◌⊎◌, ◌&&◌, ◌||◌, ℕ}
use Rattle.std.proofs.Common.{sym}
use Rattle.std.proofs.Math.Bool.{So}
use mathlib.Core.List.{List, Memᴰ}
use Rattle.laws.specs.Tests.{by_same}
use Rattle.links.specs.Lists.{without}
use Rattle.truth.specs.Systems.{System, Leads, begins, goes}
use Rattle.truth.specs.Solutions.{leads_in}

-- The system once p is eliminated: each start and each label with what leads through p.
unfoldable pub past : ℕ → System → System
past p s = record {
  starts = λ v. s.starts v || (s.starts p && s.labels p v);
  labels = λ u v. s.labels u v || (s.labels u p && s.labels p v);
}

module _ (p : ℕ) (s : System) (vs : List ℕ) where
  -- A path of the system past p, within the vertices that remain, leads to it.
  abbrev pub Still : ℕ → Type 0
  Still = Leads (past p s) (without p vs)

  -- p starts, or there is a true label to it from a vertex to which a path past p leads.
  abbrev pub AtPivot : Type 0
  AtPivot = So (s.starts p) ⊎ ((u : ℕ) × Still u × So (s.labels u p))

-- s and t are the same on vs, but for labels from a vertex to itself.
pub record Agree (vs : List ℕ) (s t : System) : Type 0 where
  pub starts : (v : ℕ) → Memᴰ v vs → s.starts v ≡ t.starts v
  pub labels : (u v : ℕ) → Memᴰ u vs → Memᴰ v vs → u ≢ v → s.labels u v ≡ t.labels u v

-- Agreement goes both ways.
pub agree_sym : {vs : List ℕ} {s t : System} → Agree vs s t → Agree vs t s
agree_sym a = record { starts = λ v m. sym (a.starts v m); labels = λ u v m n d. sym (a.labels u v m n d) }

-- A label from a vertex to itself leads to nothing new.
pub agree_leads : {vs : List ℕ} {s t : System} → Agree vs s t → {v : ℕ} → Leads s vs v → Leads t vs v
agree_leads a (begins {v} m h) = begins m (rw (a.starts v m) at h)
agree_leads a (goes {u} {v} r m h) =
    by_same u v (λ e. rw e at (agree_leads a r)) (λ d. goes (agree_leads a r) m (rw (a.labels u v (leads_in r) m d) at h))
