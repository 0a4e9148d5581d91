-- The loop that puts a line for each entry of a section.
use Rattle.std.specs.Prelude.{◌≡◌, List, ◌++◌, ℕ, ◌+◌, ◌*◌, ◌<◌, ◌≤◌, drop}
use Rattle.std.proofs.Common.{sym, ◌∙◌, add-one, drop_of_length-le}
use native.Mathlib.Omega.{arith}
use Rattle.std.proofs.Math.ListN.{length, get_or}
use Rattle.std.proofs.Math.Seq.{drop-cons}
use Rattle.form.specs.Numbers.{word_at}
use Rattle.network.specs.Lists.{entries_length, entries_at}
use Rattle.network.specs.Network.{section_of}
use Rattle.text.specs.Puts.{Puts}
use Rattle.text.specs.Putting.{fits_first, Rest, rest_more, rest_done}
use Rattle.lines.specs.Lines.{lines}

-- Before entry i of the section whose count is at a place, the lines from that entry on are left, numbered from first + i on.
module _ {A : Type 0} (line : ℕ → A → List ℕ) (read : List ℕ → ℕ → A) (size : ℕ) (s : List ℕ) (place first i : ℕ) {whole : List ℕ} {at : ℕ}
    {before : List ℕ} {m : ℕ} {mid : List ℕ} (rest : Rest whole at before (lines line (first + i) (drop i (section_of read size s place))) m mid) where
  abbrev xs : List A
  xs = section_of read size s place

  many : length xs ≡ word_at s place
  many = entries_length (read s) size (place + 2) (word_at s place)

  module _ (x : A) (is : x ≡ read s (place + 2 + size * i)) (more : i < word_at s place) where
    here : lines line (first + i) (drop i xs) ≡ line (first + i) x ++ lines line (first + (i + 1)) (drop (i + 1) xs)
    unfolding lines
    here =
        let e : get_or xs i x ≡ x = entries_at (read s) size (place + 2) (word_at s place) i x more ∙ sym is in
        let n : first + (i + 1) ≡ first + i + 1 = omega arith in
        rw (n, add-one i, drop-cons xs i x (omega (arith, many)), e)

    pub line_fits : m + length (line (first + i) x) ≤ length mid
    line_fits = fits_first (line (first + i) x) (lines line (first + (i + 1)) (drop (i + 1) xs)) m (length mid) (rw here at rest.fits)

    pub line_more : {next : List ℕ} {r : ℕ} → Puts (line (first + i) x) m mid next r
        → Rest whole at before (lines line (first + (i + 1)) (drop (i + 1) xs)) r next
    line_more {next} {r} q =
        rest_more whole at before (line (first + i) x) (lines line (first + (i + 1)) (drop (i + 1) xs)) m mid (rw here at rest) next r q

  pub lines_done : word_at s place ≤ i → Puts whole at before mid m
  unfolding lines
  lines_done h =
      let none : length xs ≤ i = omega (arith, many) in
      rest_done whole at before m mid (rw (drop_of_length-le xs none) at rest)
