-- Laws of lists of vertices: what passes a test, where a number is least, and numbers in a row.
use Rattle.std.specs.Prelude.{◌≡◌, refl, ◌≢◌, Bool, true, false, not, cond, ◌&&◌, ◌||◌, ℕ, zero, suc, ◌+◌, ◌<◌, ◌≤◌, eqb, ltb, length, get_or}
use Rattle.std.proofs.Common.{ap, sym, ◌∙◌, ⊎_elim, arith, eq-eqb, ne_eqb, ltb-true, ltb-false}
use Rattle.std.proofs.Math.Bool.{and_comm}
use mathlib.Core.List.Memᴰ
use mathlib.Core.List.{List, [], ◌∷◌, map, Memᴰ}
use Rattle.std.proofs.lemmas.Bool.{eqb-false, not-true}
use Rattle.std.proofs.lemmas.List.{length-map}
use Rattle.laws.specs.Tests.{by_test, by_same}
use Rattle.links.specs.Lists.{keep, without, lowest, up_to, vertices}

-- Each is below those after it.
abbrev pub Ascending : List ℕ → Type 0
Ascending [] = Unit
Ascending (v ∷ vs) = ((u : ℕ) → Memᴰ u vs → v < u) × Ascending vs

-- An entry is a member.
pub get_or_in : (vs : List ℕ) (k d : ℕ) → k < length vs → Memᴰ (get_or vs k d) vs
get_or_in [] k d h = absurd (omega arith)
get_or_in (v ∷ vs) zero d h = Memᴰ.head refl
get_or_in (v ∷ vs) (suc k) d h = Memᴰ.tail (get_or_in vs k d (omega arith))

-- What passes was there, and passes.
pub keep_in : (f : ℕ → Bool) (vs : List ℕ) {v : ℕ} → Memᴰ v (keep f vs) → Memᴰ v vs × (f v ≡ true)
keep_in f [] m = absurd (Memᴰ.not-nil m)
keep_in f (u ∷ us) {v} m = go (f u) refl m (keep_in f us)
  where
    go : (b : Bool) → f u ≡ b → Memᴰ v (cond b (u ∷ keep f us) (keep f us))
        → (Memᴰ v (keep f us) → Memᴰ v us × (f v ≡ true))
        → Memᴰ v (u ∷ us) × (f v ≡ true)
    go true e (Memᴰ.head q) below = (Memᴰ.head q, ap f q ∙ e)
    go true e (Memᴰ.tail m') below = (Memᴰ.tail (below m').0, (below m').1)
    go false e m' below = (Memᴰ.tail (below m').0, (below m').1)

-- What is left without p is another.
pub without_in : (p : ℕ) (vs : List ℕ) {v : ℕ} → Memᴰ v (without p vs) → Memᴰ v vs × (p ≢ v)
without_in p vs {v} m =
    let k = keep_in (λ u. not (eqb p u)) vs m in (k.0, eqb-false p v (not-true (eqb p v) k.1))

-- What is there and passes is kept,
pub in_keep : (f : ℕ → Bool) (vs : List ℕ) {v : ℕ} → Memᴰ v vs → f v ≡ true → Memᴰ v (keep f vs)
in_keep f [] {v = v} m h = elim m [ ]
in_keep f (u ∷ us) (Memᴰ.head e) h = let t = rw e at h in rw t (Memᴰ.head e)
in_keep f (u ∷ us) (Memᴰ.tail m) h =
    let k = in_keep f us m h in by_test (f u) (λ t. rw t (Memᴰ.tail k)) (λ t. rw t k)

-- so another than p is left without p.
pub in_without : (p : ℕ) (vs : List ℕ) {v : ℕ} → Memᴰ v vs → p ≢ v → Memᴰ v (without p vs)
in_without p vs {v} m d = in_keep (λ u. not (eqb p u)) vs m (rw (ne_eqb p v d))

-- Tests that agree on a list pass the same.
pub keep_same : (f h : ℕ → Bool) (vs : List ℕ) → ((v : ℕ) → Memᴰ v vs → f v ≡ h v) → keep f vs ≡ keep h vs
keep_same f h [] e = refl
keep_same f h (v ∷ vs) e = rw (e v (Memᴰ.head refl), keep_same f h vs (λ u m. e u (Memᴰ.tail m)))

-- A test that all pass leaves all.
pub keep_all : (f : ℕ → Bool) (vs : List ℕ) → ((v : ℕ) → Memᴰ v vs → f v ≡ true) → keep f vs ≡ vs
keep_all f [] all = refl
keep_all f (v ∷ vs) all = rw (all v (Memᴰ.head refl), keep_all f vs (λ u m. all u (Memᴰ.tail m)))

-- Two tests in turn are one test.
pub keep_keep : (f h : ℕ → Bool) (vs : List ℕ) → keep f (keep h vs) ≡ keep (λ v. h v && f v) vs
keep_keep f h [] = refl
keep_keep f h (v ∷ vs) = by_test (h v) (λ e. rw (e, keep_keep f h vs)) (λ e. rw (e, keep_keep f h vs))

-- It makes no difference which of two tests comes first.
pub keep_swap : (f h : ℕ → Bool) (vs : List ℕ) → keep f (keep h vs) ≡ keep h (keep f vs)
keep_swap f h vs = keep_keep f h vs ∙ keep_same _ _ vs (λ v m. and_comm (h v) (f v)) ∙ sym (keep_keep h f vs)

-- No more pass than there are.
pub keep_shorter : (f : ℕ → Bool) (vs : List ℕ) → length (keep f vs) ≤ length vs
keep_shorter f [] = omega arith
keep_shorter f (v ∷ vs) =
    let below : length (keep f vs) ≤ length vs = keep_shorter f vs in
    by_test (f v) (λ e. rw e (omega arith)) (λ e. rw e (omega arith))

-- No more pass one test or the other than pass each.
pub keep_or : (f h : ℕ → Bool) (vs : List ℕ) → length (keep (λ v. f v || h v) vs) ≤ length (keep f vs) + length (keep h vs)
keep_or f h [] = omega arith
keep_or f h (v ∷ vs) =
    let below : length (keep (λ u. f u || h u) vs) ≤ length (keep f vs) + length (keep h vs) = keep_or f h vs in
    by_test (f v)
    (λ e. rw e (by_test (h v) (λ q. rw q (omega arith)) (λ q. rw q (omega arith))))
    (λ e. rw e (by_test (h v) (λ q. rw q (omega arith)) (λ q. rw q below)))

-- What passes stays in order.
pub ascending_keep : (f : ℕ → Bool) (vs : List ℕ) → Ascending vs → Ascending (keep f vs)
ascending_keep f [] a = tt
ascending_keep f (v ∷ vs) a =
    let below : Ascending (keep f vs) = ascending_keep f vs a.1 in
    by_test (f v) (λ e. rw e ((λ u m. a.0 u (keep_in f vs m).0), below)) (λ e. rw e below)

-- One fewer without p.
pub without_length : (p : ℕ) (vs : List ℕ) → Ascending vs → Memᴰ p vs → suc (length (without p vs)) ≡ length vs
without_length p [] a m = absurd (Memᴰ.not-nil m)
without_length p (v ∷ vs) a (Memᴰ.head e) =
    rw (eq-eqb p v e, keep_all (λ u. not (eqb p u)) vs (λ u m. rw (ne_eqb p u (omega (arith, a.0 u m)))))
without_length p (v ∷ vs) a (Memᴰ.tail m) =
    rw (ne_eqb p v (omega (arith, a.0 p m))) (ap suc (without_length p vs a.1 m))

-- The first at which a number is least is one of them.
pub lowest_in : (D : ℕ → ℕ) (best : ℕ) (vs : List ℕ) → Memᴰ (lowest D best vs) (best ∷ vs)
lowest_in D best [] = Memᴰ.head refl
lowest_in D best (v ∷ vs) =
    by_test (ltb (D v) (D best)) (λ t. rw t (Memᴰ.tail (lowest_in D v vs))) (λ t. rw t (skip (lowest_in D best vs)))
  where
    skip : {u : ℕ} → Memᴰ u (best ∷ vs) → Memᴰ u (best ∷ v ∷ vs)
    skip (Memᴰ.head e) = Memᴰ.head e
    skip (Memᴰ.tail m) = Memᴰ.tail (Memᴰ.tail m)

-- The number is no less at any other.
pub lowest_least : (D : ℕ → ℕ) (best : ℕ) (vs : List ℕ) (u : ℕ) → Memᴰ u (best ∷ vs) → D (lowest D best vs) ≤ D u
lowest_least D best [] u m = rw (Memᴰ.eq_of_singleton m) (omega arith)
lowest_least D best (v ∷ vs) u m =
    let c = cond (ltb (D v) (D best)) v best in
    let least : (D c ≤ D v) × (D c ≤ D best)
    = by_test (ltb (D v) (D best)) (λ t. rw t (omega (arith, ltb-true))) (λ t. rw t (omega (arith, ltb-false))) in
    let here = lowest_least D c vs c (Memᴰ.head refl) in
    ⊎_elim (λ e. omega (arith, ap D e))
    (λ i. ⊎_elim (λ e. omega (arith, ap D e)) (λ j. lowest_least D c vs u (Memᴰ.tail j)) (Memᴰ.cases_cons i))
    (Memᴰ.cases_cons m)

-- Numbers in a row: where they lie, their order, how many they are, and which.
pub up_to_bounds : (n i : ℕ) {v : ℕ} → Memᴰ v (up_to n i) → (i ≤ v) × (v < i + n)
up_to_bounds zero i m = absurd (Memᴰ.not-nil m)
up_to_bounds (suc n) i (Memᴰ.head e) = omega arith
up_to_bounds (suc n) i (Memᴰ.tail m) = omega (arith, up_to_bounds n (suc i) m)

pub up_to_ascending : (n i : ℕ) → Ascending (up_to n i)
up_to_ascending zero i = tt
up_to_ascending (suc n) i = ((λ u m. (up_to_bounds n (suc i) m).0), up_to_ascending n (suc i))

pub up_to_length : (n i : ℕ) → length (up_to n i) ≡ n
up_to_length zero i = refl
up_to_length (suc n) i = ap suc (up_to_length n (suc i))

pub up_to_in : (n i v : ℕ) → i ≤ v → v < i + n → Memᴰ v (up_to n i)
up_to_in zero i v l h = absurd (omega arith)
up_to_in (suc n) i v l h =
    by_same v i (λ e. Memᴰ.head e) (λ d. Memᴰ.tail (up_to_in n (suc i) v (omega arith) (omega arith)))

-- A list with an entry for each vertex.
module _ {A : Type 0} (f : ℕ → A) where
  from_at : (n i k : ℕ) (d : A) → k < n → get_or (map f (up_to n i)) k d ≡ f (i + k)
  from_at zero i k d h = absurd (omega arith)
  from_at (suc n) i zero d h = ap f (omega arith)
  from_at (suc n) i (suc k) d h = from_at n (suc i) k d (omega arith) ∙ ap f (omega arith)

  pub vertex_at : (n k : ℕ) (d : A) → k < n → get_or (map f (vertices n)) k d ≡ f k
  vertex_at n k d h = from_at n 0 k d h ∙ ap f (omega arith)

  pub vertices_long : (n : ℕ) → length (map f (vertices n)) ≡ n
  vertices_long n = length-map (vertices n) f ∙ up_to_length n 0
