-- The answer for an accepted file: the first marks, the marks that spread from them, and the bytes that say which vertices are marked.
use Rattle.std.specs.Prelude.{◌≡◌, ◌≢◌, Bool, false, ◌&&◌, List, ℕ, ◌+◌, ◌<◌, ◌≤◌, ltb, length, set, take, drop, replicate}
use Rattle.std.proofs.Common.{ap, ◌∙◌, inl, inr, arith, length-take-le, get_or-take}
use Rattle.std.proofs.Math.Path.{sym}
use Rattle.std.proofs.Math.Bool.{So}
use Rattle.std.proofs.lemmas.Bool.{false≢true}
use borrow.Author.Tests.{lt-ltb, le-ltb, ltb-true, ltb-false}
use Rattle.std.proofs.Math.ListN.{get_or, length-set}
use Rattle.std.proofs.Math.Seq.{get_or-set_same, get_or-set_other, drop-set-lt}
use Rattle.form.specs.Numbers.{bit_of}
use Rattle.laws.specs.Places.{at_same}
use Rattle.laws.specs.Tests.{both_true, by_test, by_same}
use Rattle.formula.specs.Worth.{worth}
use Rattle.network.specs.declared.Sections.{Sections}
use Rattle.network.specs.Layout.{Layout, Within, StartRead}
use Rattle.network.specs.Lists.{starts_length, start_at}
use Rattle.network.specs.Network.{edition, side, network_of}
use Rattle.paths.specs.Paths.{worth_in, Reached, source, through}
use Rattle.paths.specs.PathLaws.{reached_all}
use Rattle.values.specs.Values.{value_in, Holds}
use Rattle.direct.specs.Direct.{Answered}
use Rattle.direct.specs.Marks.{marked}
use Rattle.direct.specs.Sweep.{Spread, spread_sound, spread_grows, spread_full}

-- Of the first k vertices, those with a true start are marked, and no other vertex is.
pub record Beginning (value : ℕ → Bool) (starts : List ℕ) (marks : List Bool) (k : ℕ) : Type 0 where
  pub within : k ≤ length starts
  pub at : (v : ℕ) → marked marks v ≡ ltb v k && value (get_or starts v 0)
  pub long : length marks ≡ side

below_next : (v k : ℕ) → v ≢ k → ltb v k ≡ ltb v (k + 1)
below_next v k d =
    by_test (ltb v k)
    (λ t. t ∙ sym (lt-ltb v (k + 1) (omega (arith, ltb-true v k t))))
    (λ t. t ∙ sym (le-ltb v (k + 1) (omega (arith, ltb-false v k t))))

module _ (values : List Bool) (s : List ℕ) (parts : Sections) (layout : Layout s parts) (within : Within edition parts) where
  pub beginning_none : (marks : List Bool) → marks ≡ replicate side false → Beginning (value_in values) (network_of s).starts marks 0
  unfolding marked
  beginning_none marks e =
      record { within = omega arith; at = λ v. rw (e, at_same false side v, le-ltb v 0 (omega arith)); long = rw e }

  module _ (marks : List Bool) (k : ℕ) (inv : Beginning (value_in values) (network_of s).starts marks k) where
    pub beginning_more : k < parts.vertices → (r : ℕ) → StartRead s parts k r
        → Beginning (value_in values) (network_of s).starts (set marks k (get_or values r false)) (k + 1)
    unfolding marked value_in
    beginning_more h r read =
        let n = starts_length layout in
        let q : get_or (network_of s).starts k 0 ≡ r = start_at layout k h ∙ sym read.is in
        record {
          within = omega arith;
          at = λ v. by_same v k
              (λ i. rw (i, get_or-set_same marks k (get_or values r false) false (omega (arith, inv.long)), lt-ltb k (k + 1) (omega arith), q))
              (λ d. rw (get_or-set_other marks k v (get_or values r false) false d) (inv.at v ∙ rw (below_next v k d)));
          long = length-set marks k (get_or values r false) ∙ inv.long;
        }

-- Of the first n bytes, the first k say which vertices are marked; later bytes stay.
pub record Written (marks : List Bool) (n : ℕ) (before after : List ℕ) (k : ℕ) : Type 0 where
  pub within : k ≤ n
  pub long : length after ≡ length before
  pub bytes : (v : ℕ) → v < k → get_or after v 0 ≡ bit_of (marked marks v)
  pub later : drop n after ≡ drop n before

module _ (marks : List Bool) (n : ℕ) (before after : List ℕ) (k : ℕ) (inv : Written marks n before after k) where
  pub written_more : k < n → n ≤ length before → (x : ℕ) → x ≡ bit_of (get_or marks k false) → Written marks n before (set after k x) (k + 1)
  unfolding marked
  written_more h l x e =
      record {
        within = omega arith;
        long = length-set after k x ∙ inv.long;
        bytes = λ v i. by_same v k
            (λ q. rw q (get_or-set_same after k x 0 (omega (arith, inv.long)) ∙ e))
            (λ d. get_or-set_other after k v x 0 d ∙ inv.bytes v (omega arith));
        later = drop-set-lt n after k x h ∙ inv.later;
      }

-- The bytes of the first n marks are those of all marks, up to n.
pub written_first : (n : ℕ) (marks : List Bool) (before after : List ℕ) → n ≤ length marks
    → Written (take n marks) (length (take n marks)) before after (length (take n marks)) → Written marks n before after n
unfolding marked
written_first n marks before after h w =
    let e : length (take n marks) ≡ n = length-take-le n marks h in
    let w : Written (take n marks) n before after n = rw e at w in
    record {
      within = omega arith;
      long = w.long;
      bytes = λ v i. w.bytes v i ∙ ap bit_of (get_or-take n marks v false i);
      later = w.later;
    }

-- The parts of `solve` make the answer: what is marked is reached, and what is reached is marked.
module _ (s : List ℕ) (parts : Sections) (layout : Layout s parts) (setting : List ℕ) (values first last : List Bool)
    (holds : Holds (worth setting (network_of s).givens) values)
    (begun : Beginning (value_in values) (network_of s).starts first parts.vertices)
    (spread : Spread (value_in values) (network_of s).switches first last) where
  first_is : (v : ℕ) → marked first v ≡ ltb v parts.vertices && worth_in (network_of s) setting (get_or (network_of s).starts v 0)
  first_is = rw holds.is at begun.at

  spread_is : Spread (worth_in (network_of s) setting) (network_of s).switches first last
  spread_is = rw holds.is at spread

  sound : (v : ℕ) → So (marked last v) → Reached (network_of s) setting v
  sound = spread_sound spread_is (Reached (network_of s) setting) (λ w m u v c r. through w m c r)
      (λ v h. let p = both_true _ _ (sym (first_is v) ∙ h) in
      source (rw (starts_length layout) (ltb-true v parts.vertices p.0)) p.1)

  complete : (v : ℕ) → Reached (network_of s) setting v → So (marked last v)
  complete v = reached_all (λ u. So (marked last u))
      (λ u h t. spread_grows spread_is u (first_is u ∙ rw (lt-ltb u parts.vertices (omega (arith, starts_length layout))) t))
      (spread_full spread_is)

  pub solved : (before after : List ℕ) → Written last parts.vertices before after parts.vertices → Answered (network_of s) setting before after
  solved before after written =
      let n = starts_length layout in
      record {
        long = written.long;
        paths = λ v h. by_test (marked last v)
            (λ t. inl ((written.bytes v (omega arith) ∙ ap bit_of t), sound v t))
            (λ t. inr ((written.bytes v (omega arith) ∙ ap bit_of t), λ r. false≢true (sym t ∙ complete v r)));
        later = rw n written.later;
      }
