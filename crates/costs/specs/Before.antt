-- What is left when a terminal with at most two neighbours goes is the network before it was added.
use Rattle.std.specs.Prelude.{◌≡◌, refl, true, ℕ}
use Rattle.std.proofs.Common.{sym, ◌∙◌, eq-eqb}
use Rattle.std.proofs.Math.Bool.{and-false, or-false, or-true}
use mathlib.Core.List.{List, [], ◌∷◌, Memᴰ}
use Rattle.laws.specs.Tests.{by_test, by_same}
use Rattle.links.specs.Lists.{without}
use Rattle.links.specs.Links.{Graph, beside, neighbours, gone}
use Rattle.links.specs.ListLaws.{keep_same}
use Rattle.links.specs.Neighbours.{neighbours_in, in_neighbours}
use Rattle.links.specs.Symmetry.{Symmetric}
use Rattle.costs.specs.Built.{Linked, AsBefore, AsBeforeBut}

module _ (g : Graph) (s : Symmetric g) (vs : List ℕ) (w : ℕ) where
  -- Once w is gone, two of its neighbours ns are linked.
  gone_pair : (ns : List ℕ) → neighbours g vs w ≡ ns → {u v : ℕ} → Memᴰ u ns → Memᴰ v ns → gone w g u v ≡ true
  unfolding Symmetric
  gone_pair ns e {u} {v} mu mv = rw (s u w, (neighbours_in g vs w {v = u} (rw e mu)).1, (neighbours_in g vs w {v = v} (rw e mv)).1, or-true)

  -- Any other two are as before.
  gone_other : (ns : List ℕ) → neighbours g vs w ≡ ns → {u v : ℕ} → Memᴰ u (without w vs) → Memᴰ v (without w vs)
      → (Memᴰ u ns → Memᴰ v ns → ⊥) → g u v ≡ gone w g u v
  unfolding Symmetric
  gone_other ns e {u} {v} mu mv other =
      rw (s u w)
      (by_test (g w u)
      (λ tu. by_test (g w v)
      (λ tv. absurd (other (rw (← e) (in_neighbours g vs w mu tu)) (rw (← e) (in_neighbours g vs w mv tv))))
      (λ fv. rw (fv, and-false, or-false)))
      (λ fu. rw (fu, or-false)))

  -- Where w has no neighbour, all are as before.
  pub gone_none : neighbours g vs w ≡ [] → AsBefore (without w vs) (gone w g) g
  gone_none e u v mu mv d = gone_other [] e mu mv (λ i j. mathlib.Core.List.Memᴰ.not-nil i)

  -- Where w has one, all are as before.
  pub gone_one : (a : ℕ) → neighbours g vs w ≡ a ∷ [] → AsBefore (without w vs) (gone w g) g
  gone_one a e u v mu mv d =
      gone_other (a ∷ []) e mu mv (λ i j. d (mathlib.Core.List.Memᴰ.eq_of_singleton i ∙ sym (mathlib.Core.List.Memᴰ.eq_of_singleton j)))

  module _ (a b : ℕ) (e : neighbours g vs w ≡ a ∷ b ∷ []) where
    -- Where w has two, these are linked.
    pub gone_linked : Linked (gone w g) a b
    gone_linked =
        let first : Memᴰ a (a ∷ b ∷ []) = mathlib.Core.List.Memᴰ.head refl in
        let second : Memᴰ b (a ∷ b ∷ []) = mathlib.Core.List.Memᴰ.tail (mathlib.Core.List.Memᴰ.head refl) in
        (gone_pair (a ∷ b ∷ []) e first second, gone_pair (a ∷ b ∷ []) e second first)

    -- All others are as before.
    pub gone_two : AsBeforeBut a b (without w vs) (gone w g) g
    gone_two u v mu mv d ab ba = gone_other (a ∷ b ∷ []) e mu mv both
      where
        both : Memᴰ u (a ∷ b ∷ []) → Memᴰ v (a ∷ b ∷ []) → ⊥
        both (mathlib.Core.List.Memᴰ.head ua) (mathlib.Core.List.Memᴰ.head va) = d (ua ∙ sym va)
        both (mathlib.Core.List.Memᴰ.head ua) (mathlib.Core.List.Memᴰ.tail j) = ab ua (mathlib.Core.List.Memᴰ.eq_of_singleton j)
        both (mathlib.Core.List.Memᴰ.tail i) (mathlib.Core.List.Memᴰ.head va) = ba (mathlib.Core.List.Memᴰ.eq_of_singleton i) va
        both (mathlib.Core.List.Memᴰ.tail i) (mathlib.Core.List.Memᴰ.tail j) = d (mathlib.Core.List.Memᴰ.eq_of_singleton i ∙ sym (mathlib.Core.List.Memᴰ.eq_of_singleton j))

module _ (vs : List ℕ) (h g : Graph) where
  -- Where a and b were linked and are, all are as before.
  pub but_none : (a b : ℕ) → AsBeforeBut a b vs h g → Linked h a b → Linked g a b → AsBefore vs h g
  but_none a b same was now u v mu mv d =
      by_same u a
      (λ ua. by_same v b (λ vb. rw (ua, vb) (now.0 ∙ sym was.0)) (λ nb. same u v mu mv d (λ e. nb) (λ ub va. d (ua ∙ sym va))))
      (λ na. by_same u b
      (λ ub. by_same v a (λ va. rw (ub, va) (now.1 ∙ sym was.1)) (λ nv. same u v mu mv d (λ ua. absurd (na ua)) (λ e. nv)))
      (λ nb. same u v mu mv d (λ ua. absurd (na ua)) (λ ub. absurd (nb ub))))

  -- Where all are linked as before, each has the same neighbours.
  pub neighbours_before : AsBefore vs h g → (w : ℕ) → Memᴰ w vs → neighbours g vs w ≡ neighbours h vs w
  neighbours_before same w m =
      keep_same (beside g w) (beside h w) vs (λ v mv. by_same w v (λ e. rw (eq-eqb w v e)) (λ d. rw (same w v m mv d)))
