-- A list of the plan while it is written, entry by entry.
use Rattle.std.specs.Prelude.{◌≡◌, refl, List, [], ◌∷◌, ◌++◌, ℕ, suc, ◌-◌, ◌<◌, ◌≤◌, length, get_or, set, take, drop, replicate}
use Rattle.std.proofs.Common.{ap, sym, ◌∙◌, append_assoc, append-nil, arith, length-set, take-append-drop, length-take-le, drop-cons, take-suc-set, drop-set-lt}
use Rattle.std.proofs.lemmas.List.{length-replicate}
use Rattle.network.specs.Network.{side}
use Rattle.plan.specs.Plans.{padded}

-- k entries have been written, and the others are to come.
pub record Writing {A : Type 0} (none : A) (whole later row : List A) (k : ℕ) : Type 0 where
  pub both : take k row ++ later ≡ whole
  pub blank : drop k row ≡ replicate (side - k) none
  pub long : length row ≡ side

module _ {A : Type 0} (none : A) where
  pub writing_none : (whole row : List A) → row ≡ replicate side none → Writing none whole whole row 0
  writing_none whole row e = record { both = refl; blank = e; long = rw e (length-replicate {A = A} side none) }

  module _ (whole later row : List A) (k : ℕ) (x : A) (inv : Writing none whole (x ∷ later) row k) (h : k < side) where
    pub writing_more : Writing none whole later (set row k x) (suc k)
    writing_more =
        let l : k < length row = omega (arith, inv.long) in
        let q : side - k ≡ suc (side - suc k) = omega arith in
        let b : drop k row ≡ none ∷ replicate (side - suc k) none = rw q at inv.blank in
        let d : drop k row ≡ get_or row k none ∷ drop (suc k) row = drop-cons row k none l in
        let e : drop (suc k) row ≡ replicate (side - suc k) none = cc in
        record {
          both = rw (take-suc-set row k x l) (append_assoc (take k row) (x ∷ []) later ∙ inv.both);
          blank = drop-set-lt (suc k) row k x (omega arith) ∙ e;
          long = length-set row k x ∙ inv.long;
        }

  pub writing_done : (whole row : List A) (k : ℕ) → Writing none whole [] row k → k ≤ side → row ≡ padded none whole
  unfolding padded
  writing_done whole row k inv h =
      let e : take k row ≡ whole = sym (append-nil (take k row)) ∙ inv.both in
      let l : length whole ≡ k = ap length (sym e) ∙ length-take-le k row (omega (arith, inv.long)) in
      rw (l, ← e, ← inv.blank) (sym (take-append-drop k row))
