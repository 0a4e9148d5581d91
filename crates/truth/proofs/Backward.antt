-- Back substitution answers at the pivot (000, figure 1).
use Rattle.std.specs.Prelude.{◌≡◌, refl, ◌↔◌, ◌≢◌, ◌⊎◌, Bool, true, ◌&&◌, ◌||◌, ℕ}
use Rattle.std.proofs.Common.{sym, ◌∙◌, eq-eqb, ne_eqb}
use Rattle.std.proofs.Math.Logic.{inl, inr}
use Rattle.std.proofs.Math.Bool.{So, or-false, or_assoc}
use mathlib.Core.List.Memᴰ
use mathlib.Core.List.{List, [], ◌∷◌, Memᴰ}
use Rattle.laws.specs.Tests.{both_true, either_true, by_same}
use Rattle.links.specs.Lists.{without}
use Rattle.links.specs.Links.{Graph, neighbours}
use Rattle.links.specs.ListLaws.{in_without}
use Rattle.links.specs.Symmetry.{Symmetric}
use Rattle.sheet.specs.Asks.{ask, same_cell}
use Rattle.sheet.specs.Perform.{set_cell}
use Rattle.sheet.specs.declared.Cell.{Cell}
use Rattle.sheet.specs.declared.Cell.TheVariants.{Start, Label}
use Rattle.elimination.specs.Plan.{backward}
use Rattle.truth.specs.Booleans.{or_right, any_intro, any_elim}
use Rattle.truth.specs.Systems.{System, Leads, any_of}
use Rattle.truth.specs.Solutions.{leads_in}
use Rattle.truth.specs.Carry.{truths, given, carry, system_in}
use Rattle.truth.specs.CarryLaws.{carry_leaves}
use Rattle.links.specs.Neighbours.{neighbours_in, in_neighbours, not_own}
use Rattle.truth.specs.Past.{Still, AtPivot}
use Rattle.truth.proofs.Past.{past_sound, pivot_sound, past_complete}

-- The answer is what the start was, or one of the products.
backward_adds : (f : ℕ → Bool) (p : ℕ) (ns : List ℕ) → ¬ Memᴰ p ns → (t : Cell → Bool)
    → ((u : ℕ) → Memᴰ u ns → t (Start u) && t (Label u p) ≡ f u) → carry truths (backward p ns) t (Start p) ≡ t (Start p) || any_of f ns
unfolding backward carry given set_cell same_cell any_of
backward_adds f p [] own t e = sym (or-false (t (Start p)))
backward_adds f p (u ∷ us) own t e =
    backward_adds f p us (λ m. own (Memᴰ.tail m)) _
    (λ w m. rw (ne_eqb p w (λ q. own (Memᴰ.cast q (Memᴰ.tail m)))) (e w (Memᴰ.tail m)))
    ∙ rw (eq-eqb p p refl, e u (Memᴰ.head refl)) (or_assoc (t (Start p)) (f u) (any_of f us))

-- Other starts stay as they are.
backward_leaves : (p : ℕ) (ns : List ℕ) (v : ℕ) → p ≢ v → (t : Cell → Bool) → carry truths (backward p ns) t (Start v) ≡ t (Start v)
unfolding backward same_cell
backward_leaves p ns v d =
    carry_leaves truths (Start v) (backward p ns)
    (λ x m. let r = Memᴰ.of_map (λ u. ask true (Start p) (Start u) (Label u p)) ns m in rw (← r.2) (ne_eqb p v d))

-- b are the cells before back substitution: the pivot's own are as in t, and the starts of the vertices that remain tell where paths lead.
module _ (g : Graph) (s : Symmetric g) (vs : List ℕ) (p : ℕ) (n : Memᴰ p vs) (t b : Cell → Bool)
    (start : b (Start p) ≡ t (Start p)) (labels : (u : ℕ) → b (Label u p) ≡ t (Label u p))
    (right : (v : ℕ) → Memᴰ v (without p vs) → So (b (Start v)) ↔ Still p (system_in g t) vs v) where
  abbrev ns : List ℕ
  ns = neighbours g vs p

  term : ℕ → Bool
  term u = b (Start u) && t (Label u p)

  -- The sum at the pivot says what the system says there.
  at_pivot : So (t (Start p) || any_of term ns) ↔ AtPivot p (system_in g t) vs
  unfolding term Symmetric
  at_pivot = (λ h. fore (either_true (t (Start p)) (any_of term ns) h), aft)
    where
      fore : So (t (Start p)) ⊎ So (any_of term ns) → AtPivot p (system_in g t) vs
      fore (inl h) = inl h
      fore (inr h) =
          let w = any_elim term ns h in
          let k = neighbours_in g vs p w.1 in
          let parts = both_true (b (Start w.0)) (t (Label w.0 p)) w.2 in
          inr (w.0, (right w.0 k.0).0 parts.0, rw (s w.0 p, k.1, parts.1))

      aft : AtPivot p (system_in g t) vs → So (t (Start p) || any_of term ns)
      aft (inl h) = rw h
      aft (inr w) =
          let u = w.0 in
          let m = leads_in w.1 in
          let parts = both_true (g u p) (t (Label u p)) w.2 in
          or_right (t (Start p)) (any_of term ns)
          (any_intro term ns (in_neighbours g vs p m (sym (s u p) ∙ parts.0)) (rw ((right u m).1 w.1, parts.1)))

  -- Then back substitution makes the starts of all vertices tell where paths lead.
  pub backward_right : (v : ℕ) → Memᴰ v vs → So (carry truths (backward p ns) b (Start v)) ↔ Leads (system_in g t) vs v
  unfolding term
  backward_right v m = by_same p v (λ e. rw (← e) own) others
    where
      sys : System
      sys = system_in g t

      own : So (carry truths (backward p ns) b (Start p)) ↔ Leads sys vs p
      own =
          rw (backward_adds term p ns (not_own g vs p) b (λ u k. rw (labels u)), start)
          (λ h. pivot_sound p sys vs n (at_pivot.0 h), λ r. at_pivot.1 ((past_complete p sys vs r).0 refl))

      others : p ≢ v → So (carry truths (backward p ns) b (Start v)) ↔ Leads sys vs v
      others d =
          let k = in_without p vs m d in
          rw (backward_leaves p ns v d b)
          (λ h. past_sound p sys vs n ((right v k).0 h), λ r. (right v k).1 ((past_complete p sys vs r).1 k))
