-- The starts of an accepted file, translated.
use Rattle.std.specs.Prelude.{◌≡◌, List, ℕ, ◌+◌, ◌*◌, ◌≤◌, ◌<◌, ltb, length, get_or, set, replicate}
use Rattle.std.proofs.Common.{sym, ◌∙◌, arith, length-set, get_or-set_same, get_or-set_other}
use Rattle.std.proofs.Math.Path.{fun_ext}
use borrow.Author.Tests.{lt-ltb, ltb-true, ltb-false}
use Rattle.std.proofs.lemmas.List.{length-replicate}
use Rattle.std.proofs.Math.ListN.{get_or-eq_default}
use Rattle.laws.specs.Tests.{by_test, by_same}
use Rattle.laws.specs.Places.{at_zeros}
use Rattle.form.specs.References.{formula}
use Rattle.formula.specs.Givens.{translate}
use Rattle.network.specs.Network.{edition, side, network_of}
use Rattle.network.specs.Layout.{Sound, StartRead}
use Rattle.network.specs.Lists.{starts_length, start_at}
use Rattle.network.specs.declared.Sections.{Sections}
use Rattle.sheet.specs.Cells.{cell_count, cells_in, place_of}
use Rattle.sheet.specs.declared.Cell.{Cell}
use Rattle.sheet.specs.declared.Cell.TheVariants.{Start, Label}
use Rattle.operations.specs.Runs.{Held}
use Rattle.analysis.specs.Wiring.{translated, starting}
use Rattle.wiring.specs.Switches.{Translating}

-- The first k vertices have their starts, translated, and every other cell holds 0.
pub record Started (p : ℕ) (references starts cells : List ℕ) (k : ℕ) : Type 0 where
  pub within : k ≤ length starts
  pub done : (v : ℕ) → v < k → get_or cells v 0 ≡ translate p references (get_or starts v 0)
  pub rest : (v : ℕ) → k ≤ v → get_or cells v 0 ≡ 0
  pub long : length cells ≡ cell_count

module _ (file : List ℕ) (parts : Sections) (sound : Sound edition file parts) (references : List ℕ) where
  pub started_none : (cells : List ℕ) → cells ≡ replicate cell_count 0 → Started parts.variables references (network_of file).starts cells 0
  started_none cells e =
      record {
        within = omega arith;
        done = λ v h. absurd (omega arith);
        rest = λ v h. rw e (at_zeros cell_count v);
        long = rw e (length-replicate {A = ℕ} cell_count 0);
      }

  module _ (cells : List ℕ) (k : ℕ) (inv : Started parts.variables references (network_of file).starts cells k) where
    pub started_more : k < parts.vertices → (r : ℕ) → StartRead file parts k r → (x : ℕ) → x ≡ translate parts.variables references r
        → (written : List ℕ) → written ≡ set cells (place_of (Start k)) x
        → Started parts.variables references (network_of file).starts written (k + 1)
    started_more h r read x e written q =
        let s : get_or (network_of file).starts k 0 ≡ r = start_at sound.layout k h ∙ sym read.is in
        rw q
        (record {
          within = omega (arith, starts_length sound.layout);
          done = λ v l. by_same v k
              (λ i. rw (i, get_or-set_same cells k x 0 (omega (arith, inv.long, sound.within.vertices)), s) e)
              (λ d. get_or-set_other cells k v x 0 d ∙ inv.done v (omega arith));
          rest = λ v l. get_or-set_other cells k v x 0 (omega arith) ∙ inv.rest v (omega arith);
          long = length-set cells k x ∙ inv.long;
        })

  module _ (cells : List ℕ) (count : ℕ) (started : Started parts.variables references (network_of file).starts cells parts.vertices)
      (translates : Translating file parts references count) where
    pub started_held : Held parts.variables count cells
    started_held =
        record {
          long = started.long;
          below = λ k. by_test (ltb k parts.vertices)
              (λ t. rw (started.done k (ltb-true k parts.vertices t)) (translates.below (get_or (network_of file).starts k 0)))
              (λ t. omega (arith, started.rest k (ltb-false k parts.vertices t)));
        }

    -- A start beyond the last vertex is constant false.
    beyond : (v : ℕ) → parts.vertices ≤ v → translated (network_of file) (get_or (network_of file).starts v 0) ≡ 0
    unfolding translated translate
    beyond v h =
        rw (
          get_or-eq_default (network_of file).starts 0 {n = v} (omega (arith, starts_length sound.layout)),
          lt-ltb 0 (formula (length (network_of file).variables) 0) (omega arith),
        )

    start_is : (v : ℕ) → get_or cells v 0 ≡ translated (network_of file) (get_or (network_of file).starts v 0)
    start_is v =
        by_test (ltb v parts.vertices)
        (λ t. let h = ltb-true v parts.vertices t in
        started.done v h
        ∙ translates.is (get_or (network_of file).starts v 0) (rw (start_at sound.layout v h) (sound.layout.start v h)))
        (λ t. let h = ltb-false v parts.vertices t in started.rest v h ∙ sym (beyond v h))

    cell_is : (c : Cell) → cells_in cells c ≡ starting (network_of file) c
    unfolding cells_in starting
    cell_is (Start v) =
        by_test (ltb v side)
        (λ t. rw t (start_is v))
        (λ t. rw t (sym (beyond v (omega (arith, ltb-false v side t, sound.within.vertices)))))
    cell_is (Label u v) =
        by_test (ltb v side)
        (λ t. rw t (started.rest (side + side * u + v) (omega (arith, sound.within.vertices))))
        (λ t. rw t)

    pub started_cells : cells_in cells ≡ starting (network_of file)
    started_cells = fun_ext cell_is
