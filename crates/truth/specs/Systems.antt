-- Systems of Boolean equations, their paths, and their solution (000, section 3).
use Rattle.std.specs.Prelude.{◌≡◌, Bool, false, ◌&&◌, ◌||◌, ℕ}
use Rattle.std.proofs.Math.Bool.{So}
use mathlib.Core.List.{List, [], ◌∷◌, Memᴰ}

-- Definition 3: a vertex labelling b and an edge labelling A. A label is false where there is no edge.
pub record System : Type 0 where
  pub starts : ℕ → Bool
  pub labels : ℕ → ℕ → Bool

-- Some path within vs, possibly of no edges, leads to v from a vertex with a true start, along true labels.
pub data Leads (s : System) (vs : List ℕ) : ℕ → Type 0 where
  begins : {v : ℕ} → Memᴰ v vs → So (s.starts v) → Leads s vs v
  goes : {u v : ℕ} → Leads s vs u → Memᴰ v vs → So (s.labels u v) → Leads s vs v

-- The sum of f over a list.
unfoldable pub any_of : {A : Type 0} → (A → Bool) → List A → Bool
any_of f [] = false
any_of f (x ∷ xs) = f x || any_of f xs

-- Definition 4: x(v) = b(v) ∨ ⋁ [x(u) ∧ A(u, v)] for every vertex v.
abbrev pub Satisfies : System → List ℕ → (ℕ → Bool) → Type 0
Satisfies s vs x = (v : ℕ) → Memᴰ v vs → x v ≡ s.starts v || any_of (λ u. x u && s.labels u v) vs

-- Definition 5: it satisfies the system, and is below any labelling that does.
pub record Solution (s : System) (vs : List ℕ) (x : ℕ → Bool) : Type 0 where
  pub satisfies : Satisfies s vs x
  pub least : (y : ℕ → Bool) → Satisfies s vs y → (v : ℕ) → Memᴰ v vs → So (x v) → So (y v)
