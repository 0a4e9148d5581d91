-- Lists of vertices.
use Rattle.std.specs.Prelude.{Bool, not, cond, List, [], ◌∷◌, ℕ, zero, suc, eqb, ltb}

-- Those that pass the test f.
abbrev pub keep : (ℕ → Bool) → List ℕ → List ℕ
keep f [] = []
keep f (v ∷ vs) = cond (f v) (v ∷ keep f vs) (keep f vs)

-- All but p.
abbrev pub without : ℕ → List ℕ → List ℕ
without p vs = keep (λ v. not (eqb p v)) vs

-- Of best and then vs, the first at which D is least.
abbrev pub lowest : (ℕ → ℕ) → ℕ → List ℕ → ℕ
lowest D best [] = best
lowest D best (v ∷ vs) = lowest D (cond (ltb (D v) (D best)) v best) vs

-- i, i+1, .., n of them
abbrev pub up_to : ℕ → ℕ → List ℕ
up_to zero i = []
up_to (suc n) i = i ∷ up_to n (suc i)

-- The vertices of a network, ascending.
abbrev pub vertices : ℕ → List ℕ
vertices n = up_to n 0
