-- Networks that are built one terminal at a time.
use Rattle.std.specs.Prelude.{◌≡◌, ◌≢◌, true, ℕ}
use mathlib.Core.List.{List, [], ◌∷◌, Memᴰ}
use Rattle.links.specs.Lists.{without}
use Rattle.links.specs.Links.{Graph, neighbours}

-- Two vertices are linked, both ways.
abbrev pub Linked : Graph → ℕ → ℕ → Type 0
Linked g a b = (g a b ≡ true) × (g b a ≡ true)

-- Every two of the vertices vs are linked in g just where they were in h.
abbrev pub AsBefore : List ℕ → Graph → Graph → Type 0
AsBefore vs h g = (u v : ℕ) → Memᴰ u vs → Memᴰ v vs → u ≢ v → g u v ≡ h u v

-- The same of every two but a and b, between which the link may be kept or dropped.
abbrev pub AsBeforeBut : ℕ → ℕ → List ℕ → Graph → Graph → Type 0
AsBeforeBut a b vs h g =
    (u v : ℕ) → Memᴰ u vs → Memᴰ v vs → u ≢ v → (u ≡ a → v ≢ b) → (u ≡ b → v ≢ a) → g u v ≡ h u v

-- The network g of the vertices vs is built from nothing by adding terminals. The last of them is w, and h is the network before it was added.
pub data Built : Graph → List ℕ → Type 0 where
  nothing : {g : Graph} → Built g []
  -- w is linked to none.
  alone : {g h : Graph} {vs : List ℕ} (w : ℕ) → Memᴰ w vs → Built h (without w vs)
      → neighbours g vs w ≡ [] → AsBefore (without w vs) h g → Built g vs
  -- w is linked to one, a.
  branch : {g h : Graph} {vs : List ℕ} (w a : ℕ) → Memᴰ w vs → Built h (without w vs)
      → neighbours g vs w ≡ a ∷ [] → AsBefore (without w vs) h g → Built g vs
  -- w is linked to two, a and b, that are linked to each other at that moment; that link is then kept or dropped.
  across : {g h : Graph} {vs : List ℕ} (w a b : ℕ) → Memᴰ w vs → Built h (without w vs)
      → neighbours g vs w ≡ a ∷ b ∷ [] → Linked h a b → AsBeforeBut a b (without w vs) h g → Built g vs
