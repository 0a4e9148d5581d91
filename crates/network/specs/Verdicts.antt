-- The verdict of each test, from the fact about the numbers.
use Rattle.std.specs.Prelude.{◌≡◌, List, ℕ, ◌+◌, ◌-◌, ◌<◌, ◌≤◌, length}
use borrow.Author.Tests.{le-leb, lt-leb, lt-ltb, le-ltb, eq-eqb, ne_eqb}
use Rattle.form.specs.Numbers.{word_at}
use Rattle.form.specs.Refusals.{fine, fault}
use Rattle.form.specs.Verdicts.{above_fault, above_fine, from_fault, from_fine}
use Rattle.network.specs.Faults.{cut_fault, count_fault, coil_fault, kind_fault, reference_fault, end_fault, trailing_fault}

module _ (s : List ℕ) (at : ℕ) where
  pub cut : (size : ℕ) → length s < at + size → fault 1 at ≡ cut_fault size s at
  unfolding cut_fault
  cut size h = above_fault 1 at h

  pub whole : (size : ℕ) → at + size ≤ length s → fine ≡ cut_fault size s at
  unfolding cut_fault
  whole size h = above_fine 1 at h

  pub count_over : (limit : ℕ) → limit < word_at s at → fault 2 at ≡ count_fault limit s at
  unfolding count_fault
  count_over limit h = above_fault 2 at h

  pub count_fits : (limit : ℕ) → word_at s at ≤ limit → fine ≡ count_fault limit s at
  unfolding count_fault
  count_fits limit h = above_fine 2 at h

  pub coil_first : (k : ℕ) → k ≤ 0 → fine ≡ coil_fault s at k
  unfolding coil_fault
  coil_first k h = rw (le-ltb _ _ h)

  pub coil_wrong : (k : ℕ) → 0 < k → word_at s at ≤ word_at s (at - 2) → fault 3 at ≡ coil_fault s at k
  unfolding coil_fault
  coil_wrong k h l = rw (lt-ltb _ _ h, le-leb _ _ l)

  pub coil_above : (k : ℕ) → 0 < k → word_at s (at - 2) < word_at s at → fine ≡ coil_fault s at k
  unfolding coil_fault
  coil_above k h l = rw (lt-ltb _ _ h, lt-leb _ _ l)

  module _ (kind : ℕ) (e : kind ≡ word_at s at) where
    pub kind_and_lem : kind ≡ 1 → fine ≡ kind_fault s at
    unfolding kind_fault
    kind_and_lem h = rw (← e, eq-eqb _ _ h)

    pub kind_or_lem : (kind ≡ 1 → ⊥) → kind ≡ 2 → fine ≡ kind_fault s at
    unfolding kind_fault
    kind_or_lem f h = rw (← e, ne_eqb _ _ f, eq-eqb _ _ h)

    pub kind_not_lem : (kind ≡ 1 → ⊥) → (kind ≡ 2 → ⊥) → kind ≡ 3 → fine ≡ kind_fault s at
    unfolding kind_fault
    kind_not_lem f g h = rw (← e, ne_eqb _ _ f, ne_eqb _ _ g, eq-eqb _ _ h)

    pub kind_wrong : (kind ≡ 1 → ⊥) → (kind ≡ 2 → ⊥) → (kind ≡ 3 → ⊥) → fault 4 at ≡ kind_fault s at
    unfolding kind_fault
    kind_wrong f g h = rw (← e, ne_eqb _ _ f, ne_eqb _ _ g, ne_eqb _ _ h)

  pub reference_wrong : (defined : ℕ) → defined ≤ word_at s at → fault 5 at ≡ reference_fault defined s at
  unfolding reference_fault
  reference_wrong defined h = from_fault 5 at h

  pub reference_known : (defined : ℕ) → word_at s at < defined → fine ≡ reference_fault defined s at
  unfolding reference_fault
  reference_known defined h = from_fine 5 at h

  pub end_wrong : (vertices : ℕ) → vertices ≤ word_at s at → fault 6 at ≡ end_fault vertices s at
  unfolding end_fault
  end_wrong vertices h = from_fault 6 at h

  pub end_known : (vertices : ℕ) → word_at s at < vertices → fine ≡ end_fault vertices s at
  unfolding end_fault
  end_known vertices h = from_fine 6 at h

  pub trailing : at < length s → fault 7 at ≡ trailing_fault s at
  unfolding trailing_fault
  trailing h = above_fault 7 at h

  pub no_trailing : length s ≤ at → fine ≡ trailing_fault s at
  unfolding trailing_fault
  no_trailing h = above_fine 7 at h
