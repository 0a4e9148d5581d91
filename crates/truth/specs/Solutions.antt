-- Where paths lead solves the system (000, theorem 2), and the solution is one.
use Rattle.std.specs.Prelude.{◌≡◌, ◌↔◌, Bool, ◌&&◌, ◌||◌, ℕ}
use Rattle.std.proofs.Common.{⊎_elim}
use Rattle.std.proofs.Math.Bool.{So}
use mathlib.Core.List.{List, Memᴰ}
use Rattle.laws.specs.Tests.{both_true, either_true}
use Rattle.truth.specs.Booleans.{or_right, same_truth, any_intro, any_elim}
use Rattle.truth.specs.Systems.{System, Leads, begins, goes, any_of, Satisfies, Solution}

-- Paths within vs lead to vertices of vs.
pub leads_in : {s : System} {vs : List ℕ} {v : ℕ} → Leads s vs v → Memᴰ v vs
leads_in (begins m h) = m
leads_in (goes r m h) = m

module _ (s : System) (vs : List ℕ) where
  -- A labelling that satisfies the equations is true wherever a path leads.
  below : (y : ℕ → Bool) → Satisfies s vs y → {v : ℕ} → Leads s vs v → So (y v)
  below y e (begins {v} m h) = rw (e v m, h)
  below y e (goes {u} {v} r m h) =
      let f : ℕ → Bool = λ w. y w && s.labels w v in
      rw (e v m) (or_right (s.starts v) (any_of f vs) (any_intro f vs (leads_in r) (rw (below y e r, h))))

  -- Theorem 2: the labelling that is true exactly where a path leads satisfies the equations, and is the least that does.
  pub theorem_2 : (x : ℕ → Bool) → ((v : ℕ) → Memᴰ v vs → So (x v) ↔ Leads s vs v) → Solution s vs x
  theorem_2 x right = record {
    satisfies = λ v m. same_truth (x v) (sum v) (λ t. forth ((right v m).0 t)) (λ t. (right v m).1 (back m t));
    least = λ y e v m t. below y e ((right v m).0 t);
  }
    where
      term : ℕ → ℕ → Bool
      term v u = x u && s.labels u v

      sum : ℕ → Bool
      sum v = s.starts v || any_of (term v) vs

      forth : {v : ℕ} → Leads s vs v → So (sum v)
      forth (begins m h) = rw h
      forth (goes {u} {v} r m h) = or_right (s.starts v) (any_of (term v) vs) (any_intro (term v) vs (leads_in r) (rw ((right u (leads_in r)).1 r, h)))

      back : {v : ℕ} → Memᴰ v vs → So (sum v) → Leads s vs v
      back {v} m t =
          ⊎_elim (begins m)
          (λ k. let w = any_elim (term v) vs k in
          let parts = both_true (x w.0) (s.labels w.0 v) w.2 in
          goes ((right w.0 w.1).0 parts.0) m parts.1)
          (either_true (s.starts v) (any_of (term v) vs) t)

  -- Two solutions are the same on vs.
  pub solution_one : (x y : ℕ → Bool) → Solution s vs x → Solution s vs y → (v : ℕ) → Memᴰ v vs → x v ≡ y v
  solution_one x y a b v m = same_truth (x v) (y v) (a.least y b.satisfies v m) (b.least x a.satisfies v m)
