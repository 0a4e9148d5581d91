-- Networks that some order eliminates without ever taking a pivot with more than two neighbours; rule M's order is then one.
use Rattle.std.specs.Prelude.{◌≡◌, refl, ◌≢◌, Bool, true, false, ◌&&◌, ◌||◌, ℕ, zero, suc, ◌≤◌, eqb}
use Rattle.std.proofs.Common.{sym, ◌∙◌, subst₂, ⊎_elim, ne_eqb}
use Rattle.std.proofs.Math.Path.{ap, fun_ext}
use Rattle.std.proofs.Math.Bool.{not, and-false, or-false}
use mathlib.Core.List.Memᴰ
use mathlib.Core.List.{List, [], ◌∷◌, Memᴰ}
use native.Mathlib.Omega.{arith}
use Rattle.std.proofs.Math.ListN.{length}
use Rattle.laws.specs.Tests.{by_test, by_same}
use Rattle.links.specs.Lists.{keep, without}
use Rattle.links.specs.Links.{Graph, beside, neighbours, degree, pivot, gone, order_of, Step, steps}
use Rattle.links.specs.ListLaws.{
  Ascending,
  in_keep,
  in_without,
  keep_same,
  keep_swap,
  keep_shorter,
  keep_or,
  ascending_keep,
  without_length,
  lowest_in,
  lowest_least,
}
use Rattle.links.specs.Neighbours.{neighbours_others}
use Rattle.links.specs.OrderLaws.{TakesAll, none_left, taken}
use Rattle.links.specs.Symmetry.{Symmetric, symmetric_gone}

-- No pivot of an order has more than two neighbours when it is taken.
abbrev pub Few : Graph → List ℕ → List ℕ → Type 0
Few g vs ps = (s : Step) → Memᴰ s (steps g vs ps) → s.degree ≤ 2

-- Some order takes each of vs while it has at most two neighbours.
pub data Narrow : Graph → List ℕ → Type 0 where
  done : {g : Graph} → Narrow g []
  next : {g : Graph} {vs : List ℕ} (w : ℕ) → Memᴰ w vs → degree g vs w ≤ 2 → Narrow (gone w g) (without w vs) → Narrow g vs

-- The Booleans say which of x, y, v and w are linked.
commute : (xy xv vy xw wy vw wv : Bool)
    → (xy || (xw && wy)) || ((xv || (xw && wv)) && (vy || (vw && wy))) ≡ (xy || (xv && vy)) || ((xw || (xv && vw)) && (wy || (wv && vy)))
commute true xv vy xw wy vw wv = refl
commute false false vy false wy vw wv = refl
commute false false vy true true vw wv = refl
commute false false vy true false vw wv = simp (and-false, or-false)
commute false true true false wy vw wv = refl
commute false true false false wy vw wv = simp (and-false, or-false)
commute false true true true true vw wv = refl
commute false true true true false vw wv = refl
commute false true false true true vw wv = refl
commute false true false true false vw wv = simp and-false

-- Which of two vertices goes first makes no difference to the links that are left.
pub gone_gone : (v w : ℕ) (g : Graph) → gone v (gone w g) ≡ gone w (gone v g)
gone_gone v w g = fun_ext (λ x. fun_ext (λ y. commute (g x y) (g x v) (g v y) (g x w) (g w y) (g v w) (g w v)))

module _ (g : Graph) (vs : List ℕ) (up : Ascending vs) where
  -- A vertex has one neighbour fewer without v where v is one.
  one_fewer : (v w : ℕ) → Memᴰ v vs → w ≢ v → g w v ≡ true → suc (degree g (without v vs) w) ≡ degree g vs w
  one_fewer v w m d t =
      rw (keep_swap (beside g w) (λ u. not (eqb v u)) vs)
      (without_length v (neighbours g vs w) (ascending_keep (beside g w) vs up) (in_keep (beside g w) vs m (rw (ne_eqb w v d, t))))

  -- Two vertices with at most two neighbours leave each other at most two.
  stays_few : Symmetric g → (v w : ℕ) → Memᴰ v vs → Memᴰ w vs → v ≢ w → degree g vs v ≤ 2 → degree g vs w ≤ 2
      → degree (gone v g) (without v vs) w ≤ 2
  unfolding Symmetric
  stays_few s v w mv mw d fv fw =
      let others = without w (without v vs) in
      let own = ap length (neighbours_others g (without v vs) w) in
      rw (neighbours_others (gone v g) (without v vs) w)
      (by_test (g w v)
      -- Linked: w keeps the others of its own, and takes over the others of v.
      (λ t. rw (keep_same (gone v g w) (λ u. g w u || g v u) others (λ u m. rw t)) (omega (
        arith,
        own,
        ap length (neighbours_others g (without w vs) v),
        ap (λ (us : List ℕ). length (keep (g v) us)) (keep_swap (λ u. not (eqb v u)) (λ u. not (eqb w u)) vs),
        keep_or (g w) (g v) others,
        one_fewer v w mv (λ e. d (sym e)) t,
        one_fewer w v mw d (s v w ∙ t),
      )))
      -- Not linked: w keeps its own.
      (λ t. rw (keep_same (gone v g w) (g w) others (λ u m. rw (t, or-false)))
      (omega (arith, own, ap length (keep_swap (beside g w) (λ u. not (eqb v u)) vs), keep_shorter (λ u. not (eqb v u)) (neighbours g vs w)))))

-- In a narrow network any vertex with at most two neighbours may go first.
pub narrow_gone : {g : Graph} {vs : List ℕ} → Narrow g vs → Symmetric g → Ascending vs → (v : ℕ) → Memᴰ v vs → degree g vs v ≤ 2
    → Narrow (gone v g) (without v vs)
narrow_gone done s up v mv fv = absurd (Memᴰ.not-nil mv)
narrow_gone {g} {vs} (next w mw fw rest) s up v mv fv =
    by_same v w
    (λ e. rw e rest)
    (λ d.
    let d' : w ≢ v = λ e. d (sym e) in
    let up' = ascending_keep (λ u. not (eqb w u)) vs up in
    let later = narrow_gone rest (symmetric_gone w g s) up' v (in_without w vs mv d') (stays_few g vs up s w v mw mv d' fw fv) in
    next w (in_without v vs mw d) (stays_few g vs up s v w mv mw d fv fw)
    (subst₂ Narrow (gone_gone v w g) (keep_swap (λ u. not (eqb v u)) (λ u. not (eqb w u)) vs) later))

-- A narrow network of some vertices has one with at most two neighbours.
narrow_has : {g : Graph} {v : ℕ} {vs : List ℕ} → Narrow g (v ∷ vs) → (w : ℕ) × Memᴰ w (v ∷ vs) × (degree g (v ∷ vs) w ≤ 2)
narrow_has (next w m f rest) = (w, m, f)

-- An order takes few where its first pivot has few neighbours and the others take few.
few_more : (g : Graph) (vs : List ℕ) (p : ℕ) (ps : List ℕ) → degree g vs p ≤ 2 → Few (gone p g) (without p vs) ps → Few g vs (p ∷ ps)
few_more g vs p ps f rest s m = ⊎_elim (λ e. omega (arith, ap (λ (x : Step). x.degree) e)) (rest s) (Memᴰ.cases_cons m)

-- Rule M finds such a vertex at each step.
pub narrow_few : (k : ℕ) (g : Graph) (vs : List ℕ) → Symmetric g → Ascending vs → Narrow g vs → Few g vs (order_of k g vs)
narrow_few zero g vs s up n = λ x m. absurd (Memᴰ.not-nil m)
narrow_few (suc k) g [] s up n = λ x m. absurd (Memᴰ.not-nil m)
narrow_few (suc k) g (v ∷ vs) s up n =
    let all = v ∷ vs in
    let p = pivot g all in
    let (w, mw, fw) = narrow_has n in
    let mp = lowest_in (degree g all) v vs in
    let fp : degree g all p ≤ 2 = omega (arith, lowest_least (degree g all) v vs w mw) in
    few_more g all p (order_of k (gone p g) (without p all)) fp
    (narrow_few k (gone p g) (without p all) (symmetric_gone p g s) (ascending_keep (λ u. not (eqb p u)) all up) (narrow_gone n s up p mp fp))

-- Any order that takes few shows that the network is narrow.
pub few_narrow : (g : Graph) {vs ps : List ℕ} → TakesAll vs ps → Few g vs ps → Narrow g vs
few_narrow g none_left few = done
few_narrow g (taken p m rest) few = next p m (few _ (Memᴰ.head refl)) (few_narrow (gone p g) rest (λ s i. few s (Memᴰ.tail i)))
