-- A section that was written is read back.
use Rattle.std.specs.Prelude.{◌≡◌, ℕ, suc, ◌+◌, ◌*◌}
use Rattle.std.proofs.Math.Path.{refl, sym, subst}
use mathlib.Core.List.{List, [], ◌∷◌, ◌++◌, flat_map, append_assoc}
use Rattle.std.proofs.Common.{arith, length-append}
use Rattle.std.proofs.Math.ListN.{length}
use Rattle.analysis.specs.Result.{section}
use Rattle.form.specs.Numbers.{word_at, bytes_of}
use Rattle.laws.specs.Flat.{flat_length}
use Rattle.network.specs.Network.{after, entries_of, section_of}

-- The bytes of some numbers, and what comes after them.
abbrev pub written : List ℕ → List ℕ → List ℕ
written ns tail = bytes_of ns ++ tail

-- A number after some others.
pub word_back : (front rest tail : List ℕ) (n : ℕ) → word_at (written (front ++ (n ∷ rest)) tail) (2 * length front) ≡ n
unfolding word_at bytes_of
word_back [] rest tail n = omega arith
word_back (m ∷ front) rest tail n =
    let k = 2 * length front in
    let e : 2 * length (m ∷ front) ≡ suc (suc k) = omega arith in
    let f : suc (suc k) + 1 ≡ suc (suc (k + 1)) = omega arith in
    rw (e, f) (word_back front rest tail n)

module _ {A : Type 0} (entry : A → List ℕ) (read : List ℕ → ℕ → A) (numbers : ℕ) where
  -- An entry takes so many numbers, and is read back after some others.
  pub record Entry : Type 0 where
    pub long : (x : A) → length (entry x) ≡ numbers
    pub back : (front rest tail : List ℕ) (x : A) → read (written (front ++ (entry x ++ rest)) tail) (2 * length front) ≡ x

  module _ (is : Entry) where
    -- Entries, one after another.
    entries_back : (front rest tail : List ℕ) (xs : List A)
        → entries_of (read (written (front ++ (flat_map entry xs ++ rest)) tail)) (2 * numbers) (2 * length front) (length xs) ≡ xs
    unfolding entries_of flat_map
    entries_back front rest tail [] = refl
    entries_back front rest tail (x ∷ xs) =
        let more = flat_map entry xs ++ rest in
        let e : (entry x ++ flat_map entry xs) ++ rest ≡ entry x ++ more = append_assoc (entry x) (flat_map entry xs) rest in
        let f : (front ++ entry x) ++ more ≡ front ++ (entry x ++ more) = append_assoc front (entry x) more in
        let at : 2 * length (front ++ entry x) ≡ 2 * length front + 2 * numbers =
        rw (length-append front (entry x), is.long x) (omega arith) in
        let below = entries_back (front ++ entry x) rest tail xs in
        let P : List ℕ → Type 0 =
        λ ys. entries_of (read (written (front ++ ys) tail)) (2 * numbers) (2 * length front) (length (x ∷ xs)) ≡ x ∷ xs in
        subst P (sym e) (λ i. is.back front more tail x i ∷ (rw (f, at) at below) i)

    -- A section after some numbers, with its count at this place.
    module _ (s front rest tail : List ℕ) (xs : List A) (e : s ≡ written (front ++ (section entry xs ++ rest)) tail) (at : ℕ)
        (p : at ≡ 2 * length front) where
      count_back : word_at s at ≡ length xs
      count_back = rw (e, p) (word_back front (flat_map entry xs ++ rest) tail (length xs))

      -- It is read back,
      pub section_back : section_of read (2 * numbers) s at ≡ xs
      section_back =
          let more = flat_map entry xs ++ rest in
          let f : (front ++ (length xs ∷ [])) ++ more ≡ front ++ (length xs ∷ more) = append_assoc front (length xs ∷ []) more in
          let start : 2 * length (front ++ (length xs ∷ [])) ≡ at + 2 = rw (length-append front (length xs ∷ [])) (omega arith) in
          let all = entries_back (front ++ (length xs ∷ [])) rest tail xs in
          rw (count_back, e) (rw (f, start) at all)

      -- and ends where the next begins.
      pub section_ends : after (2 * numbers) s at ≡ 2 * length (front ++ section entry xs)
      section_ends =
          let l = flat_length entry numbers is.long xs in
          rw (count_back, length-append front (section entry xs), l) (omega arith)
