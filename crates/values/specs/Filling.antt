-- Filling the array in the order of the references: each truth written is one value more.
use Rattle.std.specs.Prelude.{◌≡◌, refl, Bool, true, false, List, [], ◌∷◌, ◌++◌, ℕ, zero, suc, ◌+◌, ◌<◌, ◌≤◌, eqb, set, take, replicate}
use Rattle.std.proofs.Common.{ap, ◌∙◌, arith, add-one, length-set, get_or-set_same, get_or-set_other}
use Rattle.std.proofs.Math.Path.{sym, fun_ext}
use Rattle.std.proofs.Math.ListN.{length, get_or}
use Rattle.std.proofs.Math.Seq.{take-length, length-take-le}
use Rattle.laws.specs.Places.{at_same}
use Rattle.laws.specs.Tests.{by_same}
use Rattle.form.specs.References.{constant_true, variable, formula}
use Rattle.form.specs.declared.Record.{Record}
use Rattle.formula.specs.Worth.{value_at, operate, evaluate, leaves, worth}
use Rattle.formula.specs.WorthLaws.{value_next, value_other, leaves_length, leaves_next, evaluate_length, evaluate_next}
use Rattle.network.specs.declared.Sections.{Sections}
use Rattle.network.specs.Layout.{Layout, Within, GivenRead}
use Rattle.network.specs.Lists.{givens_length, given_at_lem}
use Rattle.network.specs.Network.{edition, network_of}
use Rattle.values.specs.Values.{value_in, places, Holds, gate_bit}

-- A truth written at the first place that is not known is one value more.
holds_next :
    (known : List Bool) (b : Bool) (values : List Bool) (at : ℕ) (x : Bool) →
    at ≡ length known →
    at < places →
    x ≡ b →
    Holds (value_at known) values →
    Holds (value_at (known ++ (b ∷ []))) (set values at x)
unfolding value_in
holds_next known b values at x e h q holds =
    record {
      is = fun_ext (λ r. by_same r at
          (λ s. rw (s, get_or-set_same values at x false (omega (arith, holds.long)), q, e, value_next known b))
          (λ d. rw (get_or-set_other values at r x false d, value_other known b r (λ s. d (s ∙ sym e)))
          (ap (λ (f : ℕ → Bool). f r) holds.is)));
      long = length-set values at x ∙ holds.long;
    }

-- The constants and the first k variables are known.
pub record Filling (setting : List ℕ) (values : List Bool) (k : ℕ) : Type 0 where
  pub within : k ≤ length setting
  pub holds : Holds (value_at (leaves (take k setting))) values

-- The constants alone.
constants : (r : ℕ) → value_in (set (replicate places false) constant_true true) r ≡ value_at (leaves []) r
unfolding value_in
constants zero = refl
constants (suc zero) = refl
constants (suc (suc r)) =
    get_or-set_other (replicate places false) constant_true (suc (suc r)) true false (omega arith) ∙ at_same false places (suc (suc r))

module _ (setting : List ℕ) where
  pub filling_none : (values : List Bool) → values ≡ replicate places false → (at : ℕ) → at ≡ constant_true → Filling setting (set values at true) 0
  filling_none values e at q =
      record {
        within = omega arith;
        holds = record {
          is = rw (e, q) (fun_ext constants);
          long = rw (e, q);
        };
      }

  module _ (values : List Bool) (k : ℕ) (inv : Filling setting values k) where
    pub filling_more :
        k < length setting →
        length setting ≤ edition.variables →
        (at : ℕ) →
        at ≡ variable k →
        (x : Bool) →
        x ≡ eqb (get_or setting k 0) 1 →
        Filling setting (set values at x) (k + 1)
    filling_more h l at e x f =
        let n : length (take k setting) ≡ k = length-take-le k setting inv.within in
        record {
          within = omega arith;
          holds = rw (add-one, leaves_next setting k h)
              (holds_next (leaves (take k setting)) (eqb (get_or setting k 0) 1) values at x
              (omega (arith, leaves_length (take k setting))) (omega arith) f inv.holds);
        }

-- The first k given formulas are known besides.
pub record Running (setting : List ℕ) (gs : List Record) (values : List Bool) (k : ℕ) : Type 0 where
  pub within : k ≤ length gs
  pub holds : Holds (value_at (evaluate (leaves setting) (take k gs))) values

module _ (s : List ℕ) (parts : Sections) (layout : Layout s parts) (within : Within edition parts) (setting : List ℕ)
    (size : length setting ≡ parts.variables) where
  pub running_none : (values : List Bool) → Holds (value_at (leaves setting)) values → Running setting (network_of s).givens values 0
  unfolding evaluate
  running_none values holds = record { within = omega arith; holds = holds }

  module _ (values : List Bool) (k : ℕ) (inv : Running setting (network_of s).givens values k) where
    pub running_more :
        k < parts.givens →
        (g : Record) →
        GivenRead s parts k g →
        (x : Bool) →
        x ≡ gate_bit values g →
        Running setting (network_of s).givens (set values (formula parts.variables k) x) (k + 1)
    unfolding gate_bit
    running_more h g read x e =
        let gs = (network_of s).givens in
        let known = evaluate (leaves setting) (take k gs) in
        let n = givens_length layout in
        let q : get_or gs k g ≡ g = given_at_lem layout k g h ∙ sym read.is in
        let l : length (take k gs) ≡ k = length-take-le k gs inv.within in
        let more = holds_next known (operate g.kind (value_in values g.first) (value_in values g.second)) values (formula parts.variables k) x
        (omega (arith, evaluate_length (leaves setting) (take k gs), leaves_length setting)) (omega arith) e inv.holds in
        record {
          within = omega arith;
          holds = rw (add-one, evaluate_next (leaves setting) gs k g (omega arith), q) (rw inv.holds.is at more);
        }

    pub running_all : parts.givens ≤ k → Holds (worth setting (network_of s).givens) values
    unfolding worth
    running_all h =
        let gs = (network_of s).givens in
        let e : k ≡ length gs = omega (arith, givens_length layout, inv.within) in
        rw (e, take-length gs) at inv.holds
