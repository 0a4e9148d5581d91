-- The elimination solves the system (000, theorem 4).
use Rattle.std.specs.Prelude.{◌≡◌, ◌↔◌, Bool, not, ◌&&◌, ◌||◌, ℕ, ◌<◌}
use Rattle.std.proofs.Math.Path.{refl}
use Rattle.std.proofs.Common.{◌∙◌, arith}
use Rattle.std.proofs.Math.Logic.Iff
use Rattle.std.proofs.Math.Bool.{So}
use mathlib.Core.List.{List, ◌∷◌, ◌++◌, Memᴰ}
use Rattle.laws.specs.Tests.{by_test}
use Rattle.links.specs.Lists.{without, vertices}
use Rattle.links.specs.Links.{Graph, neighbours, gone, order}
use Rattle.links.specs.ListLaws.{without_in, up_to_in}
use Rattle.links.specs.OrderLaws.{TakesAll, none_left, taken, order_takes}
use Rattle.links.specs.Symmetry.{Symmetric, symmetric_gone}
use Rattle.sheet.specs.declared.Cell.{Cell}
use Rattle.sheet.specs.declared.Cell.TheVariants.{Start, Label}
use Rattle.elimination.specs.Plan.{forward, backward, plan, plan_of}
use Rattle.truth.specs.Systems.{Leads}
use Rattle.truth.specs.Carry.{Carrier, Reads, truths, carry, system_in}
use Rattle.truth.specs.CarryLaws.{carry_append, carry_reads}
use Rattle.truth.specs.Past.{agree_sym, agree_leads}
use Rattle.truth.specs.Writes.{Within, leaves_others, forward_within, plan_within}
use Rattle.truth.specs.Forward.{forward_agrees}
use Rattle.truth.proofs.Backward.{backward_right}

module _ (g : Graph) (s : Symmetric g) (vs ps : List ℕ) (p : ℕ) (n : Memᴰ p vs) (rest : TakesAll (without p vs) ps) (t : Cell → Bool) where
  -- The cells once p is passed, and once the vertices that remain are answered.
  abbrev passed : Cell → Bool
  passed = carry truths (forward g p (neighbours g vs p)) t

  abbrev answered : Cell → Bool
  answered = carry truths (plan (gone p g) (without p vs) ps) passed

  -- The pivot's own cells are as they were.
  own_kept : (c : Cell) → ¬ Within (without p vs) c → answered c ≡ t c
  own_kept c k =
      leaves_others truths (without p vs) (plan (gone p g) (without p vs) ps) (plan_within (gone p g) rest) c k passed
      ∙ leaves_others truths (without p vs) (forward g p (neighbours g vs p)) (forward_within g vs p) c k t

  -- One more pivot is right, where the vertices after it are.
  pivot_right : ((v : ℕ) → Memᴰ v (without p vs) → So (answered (Start v)) ↔ Leads (system_in (gone p g) passed) (without p vs) v)
      → (v : ℕ) → Memᴰ v vs → So (carry truths (plan g vs (p ∷ ps)) t (Start v)) ↔ Leads (system_in g t) vs v
  unfolding plan
  pivot_right right v m =
      let ns = neighbours g vs p in
      let later = plan (gone p g) (without p vs) ps in
      let a = forward_agrees g s vs p t in
      let own : ¬ Memᴰ p (without p vs) = λ k. (without_in p vs k).1 refl in
      rw (carry_append truths (forward g p ns) (later ++ backward p ns) t, carry_append truths later (backward p ns) passed)
      (backward_right g s vs p n t answered (own_kept (Start p) own) (λ u. own_kept (Label u p) (λ w. own w.1))
      (λ u k. Iff.trans (right u k) (agree_leads a, agree_leads (agree_sym a))) v m)

-- So every order is right on truths.
on_truths : (g : Graph) → Symmetric g → {vs ps : List ℕ} → TakesAll vs ps → (t : Cell → Bool) → (v : ℕ) → Memᴰ v vs
    → So (carry truths (plan g vs ps) t (Start v)) ↔ Leads (system_in g t) vs v
on_truths g s none_left t = λ v m. absurd (mathlib.Core.List.Memᴰ.not-nil m)
on_truths g s (taken {vs} {ps} p n rest) t =
    pivot_right g s vs ps p n rest t (on_truths (gone p g) (symmetric_gone p g s) rest (carry truths (forward g p (neighbours g vs p)) t))

-- Theorem 4: on any carrier that can be read in truths, and in any order, the elimination reads true at exactly the vertices to which a path leads.
pub theorem_4 : {X : Type 0} (k : Carrier X) (h : X → Bool) → Reads k h → (g : Graph) → Symmetric g → (vs ps : List ℕ) → TakesAll vs ps
    → (cells : Cell → X) → (v : ℕ) → Memᴰ v vs
    → So (h (carry k (plan g vs ps) cells (Start v))) ↔ Leads (system_in g (λ c. h (cells c))) vs v
theorem_4 k h reads g s vs ps takes cells v m =
    rw (carry_reads k h reads (plan g vs ps) cells (Start v)) (on_truths g s takes (λ c. h (cells c)) v m)

-- So it does for n vertices in rule M's order.
pub rule_m : {X : Type 0} (k : Carrier X) (h : X → Bool) → Reads k h → (g : Graph) → Symmetric g → (n : ℕ)
    → (cells : Cell → X) → (v : ℕ) → v < n
    → So (h (carry k (plan_of n g) cells (Start v))) ↔ Leads (system_in g (λ c. h (cells c))) (vertices n) v
rule_m k h reads g s n cells v l =
    theorem_4 k h reads g s (vertices n) (order n g) (order_takes n g) cells v (up_to_in n 0 v (omega arith) (omega arith))

-- Truths are read as they are,
pub read_truths : Reads truths (λ b. b)
read_truths = record { sums = λ x y. refl; products = λ x y. refl }

-- and, with sum and product exchanged, as their opposites: so the theorem serves absence.
pub read_opposite : Reads (record { sum = ◌&&◌; product = ◌||◌ }) not
read_opposite = record { sums = λ x y. by_test x (λ t. rw t) (λ t. rw t); products = λ x y. by_test x (λ t. rw t) (λ t. rw t) }
