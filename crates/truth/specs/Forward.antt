-- A pass leaves the system past the pivot (000, figure 1).
use Rattle.std.specs.Prelude.{◌≡◌, refl, ◌≢◌, Bool, true, false, cond, ◌&&◌, ◌||◌, ℕ}
use Rattle.std.proofs.Common.{sym, ap, ◌∙◌, true≢false}
use Rattle.std.proofs.Math.Bool.{and-false, or-false}
use mathlib.Core.List.{List, Memᴰ}
use Rattle.laws.specs.Tests.{by_test}
use Rattle.links.specs.Lists.{without}
use Rattle.links.specs.Links.{Graph, neighbours, gone}
use Rattle.links.specs.Symmetry.{Symmetric}
use Rattle.sheet.specs.declared.Ask.{Ask}
use Rattle.sheet.specs.declared.Cell.{Cell}
use Rattle.sheet.specs.declared.Cell.TheVariants.{Start, Label}
use Rattle.elimination.specs.Plan.{pass_start, pass_label, forward}
use Rattle.links.specs.Neighbours.{neighbours_in, in_neighbours, not_own}
use Rattle.truth.specs.Carry.{truths, given, carry, system_in}
use Rattle.truth.specs.CarryLaws.{settles}
use Rattle.truth.specs.Past.{past, Agree}
use Rattle.truth.specs.Writes.{Within, same_cell_lem, cells_apart, leaves_others, pass_to, start_in, label_in, forward_in_lem}

module _ (g : Graph) (p : ℕ) (ns : List ℕ) (own : ¬ Memᴰ p ns) (t : Cell → Bool) where
  -- Each ask of a pass leaves in its cell what it gives at the beginning.
  settled : (x : Ask) → Memᴰ x (forward g p ns) → ¬ Within ns x.a → ¬ Within ns x.b
      → carry truths (forward g p ns) t x.to ≡ given truths x t
  settled x m na nb =
      settles x (forward g p ns)
      (λ y k. let w = forward_in_lem g p ns y k in
      record {
        first = cells_apart ns y.to x.a w.0 na;
        second = cells_apart ns y.to x.b w.0 nb;
        own = λ s. w.1 ∙ ap (pass_to g p) (same_cell_lem y.to x.to s) ∙ sym (forward_in_lem g p ns x m).1;
      })
      t m

  start_passed : (v : ℕ) → Memᴰ v ns → carry truths (forward g p ns) t (Start v) ≡ t (Start v) || (t (Start p) && t (Label p v))
  unfolding given
  start_passed v m = settled (pass_start p v) (start_in g p ns v m) own (λ w. own w.0)

  label_passed : (u v : ℕ) → Memᴰ u ns → Memᴰ v ns → u ≢ v → carry truths (forward g p ns) t (Label u v)
      ≡ let a = t (Label u p) && t (Label p v) in cond (g u v) (t (Label u v) || a) a
  unfolding given
  label_passed u v m n d = settled (pass_label g p v u) (label_in g p ns u v m n d) (λ w. own w.1) (λ w. own w.0)

-- A label between two neighbours.
between : (l x y z : Bool) → (l || true) && cond l (x || (y && z)) (y && z) ≡ l && x || (y && z)
between true x y z = refl
between false x y z = refl

-- A label that nothing is added to.
alone : (l x : Bool) → (l || false) && x ≡ l && x || false
alone l x = rw (or-false l, or-false (l && x))

module _ (g : Graph) (s : Symmetric g) (vs : List ℕ) (p : ℕ) (t : Cell → Bool) where
  abbrev ns : List ℕ
  ns = neighbours g vs p

  abbrev passed : Cell → Bool
  passed = carry truths (forward g p ns) t

  untouched : (c : Cell) → ¬ Within ns c → passed c ≡ t c
  untouched c n = leaves_others truths ns (forward g p ns) (λ x m. (forward_in_lem g p ns x m).0) c n t

  -- After a pass the cells say the system past the pivot.
  pub forward_agrees : Agree (without p vs) (system_in (gone p g) passed) (past p (system_in g t))
  unfolding past Symmetric
  forward_agrees = record { starts = starts; labels = labels }
    where
      self : ¬ Memᴰ p ns
      self = not_own g vs p

      unlinked : (v : ℕ) → g p v ≡ false → ¬ Memᴰ v ns
      unlinked v f m = true≢false (sym (neighbours_in g vs p m).1 ∙ f)

      starts : (v : ℕ) → Memᴰ v (without p vs) → passed (Start v) ≡ t (Start v) || (t (Start p) && (g p v && t (Label p v)))
      starts v m =
          by_test (g p v)
          (λ l. rw l (start_passed g p ns self t v (in_neighbours g vs p m l)))
          (λ l. rw (l, and-false, or-false) (untouched (Start v) (unlinked v l)))

      labels : (u v : ℕ) → Memᴰ u (without p vs) → Memᴰ v (without p vs) → u ≢ v
          → gone p g u v && passed (Label u v) ≡ g u v && t (Label u v) || (g u p && t (Label u p) && (g p v && t (Label p v)))
      labels u v m n d =
          by_test (g p v)
          (λ l. by_test (g p u)
          (λ k. rw (s u p, k, l, label_passed g p ns self t u v (in_neighbours g vs p m k) (in_neighbours g vs p n l) d)
          (between (g u v) (t (Label u v)) (t (Label u p)) (t (Label p v))))
          (λ k. rw (s u p, k, untouched (Label u v) (λ w. unlinked u k w.0)) (alone (g u v) (t (Label u v)))))
          (λ l. rw (l, and-false (g u p), and-false (g u p && t (Label u p)), untouched (Label u v) (λ w. unlinked v l w.1))
          (alone (g u v) (t (Label u v))))
