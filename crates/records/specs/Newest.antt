-- The newest record of each bucket, where a search begins.
use Rattle.std.specs.Prelude.{◌≡◌, List, [], ◌∷◌, ◌++◌, ℕ, zero, suc, ◌+◌, ◌*◌, ◌%◌, ◌≤◌, ◌<◌, get_or, set, replicate}
use Rattle.std.proofs.Common.{◌∙◌, length-set, get_or-set_same, get_or-set_other}
use native.Mathlib.Omega.{arith}
use Rattle.std.proofs.Math.ListN.{length}
use Rattle.std.proofs.lemmas.List.{length-replicate}
use Rattle.laws.specs.Places.{at_zeros, set_below}
use Rattle.laws.specs.Tests.{by_same}
use Rattle.form.specs.declared.Record.{Record}
use Rattle.formula.specs.Make.{none}
use Rattle.network.specs.Network.{entries_of}
use Rattle.records.specs.Bytes.{records_in}

-- How many buckets there are.
abbrev pub buckets : ℕ
buckets = 4096

-- The bucket of a record.
unfoldable pub bucket_of : Record → ℕ
bucket_of x = (x.kind + 3 * x.first + 67 * x.second) % buckets

-- Records noted in turn from place k on, each in its bucket with one more than its place.
unfoldable pub note_all : List ℕ → ℕ → List Record → List ℕ
note_all newest k [] = newest
note_all newest k (x ∷ xs) = note_all (set newest (bucket_of x) (k + 1)) (k + 1) xs

-- For each bucket one more than the place of its newest record, and 0 where it has none.
unfoldable pub newest_of : List Record → List ℕ
newest_of rs = note_all (replicate buckets 0) 0 rs

-- There is such a bucket.
bucket_below : (x : Record) → bucket_of x < buckets
unfolding bucket_of
bucket_below x = omega arith

-- A record noted last is written last.
note_more : (newest : List ℕ) (k : ℕ) (rs : List Record) (x : Record)
    → note_all newest k (rs ++ (x ∷ [])) ≡ set (note_all newest k rs) (bucket_of x) (k + length rs + 1)
unfolding note_all
note_more newest k [] x = let e : k + 0 + 1 ≡ k + 1 = omega arith in rw e
note_more newest k (r ∷ rs) x =
    let e : k + length (r ∷ rs) + 1 ≡ k + 1 + length rs + 1 = omega arith in
    rw e (note_more (set newest (bucket_of r) (k + 1)) (k + 1) rs x)

-- No number is past the last record,
note_most : (newest : List ℕ) (k : ℕ) (rs : List Record) → ((h : ℕ) → get_or newest h 0 < k + 1) → (h : ℕ) → get_or (note_all newest k rs) h 0 < k + length rs + 1
unfolding note_all
note_most newest k [] b h = omega (arith, b h)
note_most newest k (x ∷ rs) b h =
    let below = set_below newest (bucket_of x) (k + 1) (k + 1 + 1) (omega arith) (λ i. omega (arith, b i)) in
    omega (arith, note_most (set newest (bucket_of x) (k + 1)) (k + 1) rs below h)

-- none becomes less,
note_keeps : (newest : List ℕ) (k : ℕ) (rs : List Record) → length newest ≡ buckets → (h m : ℕ) → m ≤ k + 1 → m ≤ get_or newest h 0
    → m ≤ get_or (note_all newest k rs) h 0
unfolding note_all
note_keeps newest k [] l h m a b = b
note_keeps newest k (x ∷ rs) l h m a b =
    note_keeps (set newest (bucket_of x) (k + 1)) (k + 1) rs (length-set newest (bucket_of x) (k + 1) ∙ l) h m (omega arith)
    (by_same h (bucket_of x)
    (λ q. rw (q, get_or-set_same newest (bucket_of x) (k + 1) 0 (omega (arith, bucket_below x))) a)
    (λ d. rw (get_or-set_other newest (bucket_of x) h (k + 1) 0 d) b))

-- and each record is no later than its bucket's newest.
note_after : (newest : List ℕ) (k : ℕ) (rs : List Record) → length newest ≡ buckets → (j : ℕ) → j < length rs
    → k + j < get_or (note_all newest k rs) (bucket_of (get_or rs j none)) 0
unfolding note_all
note_after newest k [] l j h = absurd (omega arith)
note_after newest k (x ∷ rs) l zero h =
    let next = set newest (bucket_of x) (k + 1) in
    let here = get_or-set_same newest (bucket_of x) (k + 1) 0 (omega (arith, bucket_below x)) in
    let long = length-set newest (bucket_of x) (k + 1) ∙ l in
    omega (arith, note_keeps next (k + 1) rs long (bucket_of x) (k + 1) (omega arith) (omega arith))
note_after newest k (x ∷ rs) l (suc j) h =
    omega (arith, note_after (set newest (bucket_of x) (k + 1)) (k + 1) rs (length-set newest (bucket_of x) (k + 1) ∙ l) j (omega arith))

module _ (rs : List Record) where
  -- A record more is its bucket's newest.
  pub newest_more : (x : Record) → newest_of (rs ++ (x ∷ [])) ≡ set (newest_of rs) (bucket_of x) (length rs + 1)
  unfolding newest_of
  newest_more x = let e : 0 + length rs + 1 ≡ length rs + 1 = omega arith in rw e at (note_more (replicate buckets 0) 0 rs x)

  -- The newest is one of the records,
  pub newest_most : (h : ℕ) → get_or (newest_of rs) h 0 ≤ length rs
  unfolding newest_of
  newest_most h = omega (arith, note_most (replicate buckets 0) 0 rs (λ i. omega (arith, at_zeros buckets i)) h)

  -- and those behind it are in other buckets.
  pub newest_after : (h j : ℕ) → get_or (newest_of rs) h 0 ≤ j → j < length rs → bucket_of (get_or rs j none) ≡ h → ⊥
  unfolding newest_of
  newest_after h j a b e =
      let l = note_after (replicate buckets 0) 0 rs (length-replicate {A = ℕ} buckets 0) j b in
      omega (arith, rw e at l)

-- Of no records, zeros.
pub newest_none : (s : List ℕ) (base : ℕ) (newest : List ℕ) → newest ≡ replicate buckets 0 → newest ≡ newest_of (records_in s base 0)
unfolding newest_of note_all records_in entries_of
newest_none s base newest e = e
