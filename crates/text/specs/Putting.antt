-- Texts put one after another.
use Rattle.std.specs.Prelude.{◌≡◌, refl, List, [], ◌∷◌, ◌++◌, ℕ, suc, ◌+◌, ◌-◌, ◌/◌, ◌%◌, ◌<◌, ◌≤◌, length, set}
use Rattle.std.proofs.Common.{ap, sym, ◌∙◌, arith, append_assoc, length-append}
use Rattle.std.proofs.lemmas.List.{drop-drop}
use Rattle.std.proofs.lemmas.List.Edits.{sets, sets-eq}
use Rattle.std.proofs.Math.Seq.{length-sets}
use borrow.Rule.Slice.PartMut.{put_mid}
use Rattle.text.specs.Texts.{digit, decimal, pair_line}
use Rattle.text.specs.Puts.{Puts}
use Rattle.text.specs.Decimals.{decimal_one, decimal_more}

-- One list put after another is the two put as one.
sets_append : (l : List ℕ) (i : ℕ) (vs ws : List ℕ) → sets l i (vs ++ ws) ≡ sets (sets l i vs) (i + length vs) ws
sets_append l i [] ws = ap (λ (k : ℕ). sets l k ws) (omega arith)
sets_append l i (v ∷ vs) ws =
    sets_append (set l i v) (suc i) vs ws ∙ ap (λ (k : ℕ). sets (sets (set l i v) (suc i) vs) k ws) (omega arith)

-- A text copied over its part of a buffer.
pub puts_copied : (text : List ℕ) (at : ℕ) (before copied : List ℕ) → at + length text ≤ length before → copied ≡ text
    → Puts text at before (put_mid at (at + length text - at) before copied) (at + length text)
puts_copied text at before copied h e =
    let k : at + length text - at ≡ length text = omega arith in
    let put : put_mid at (at + length text - at) before copied ≡ sets before at text = rw (e, k, sets-eq text before at h, drop-drop, append_assoc) in
    record { end = refl; long = rw put (length-sets before at text); put = put }

-- An equal text is put as well.
pub puts_as : (x y : List ℕ) → x ≡ y → (at : ℕ) (before after : List ℕ) (r : ℕ) → Puts y at before after r → Puts x at before after r
puts_as x y e at before after r p = rw e p

-- There is room for the parts of a line of two texts and two numbers.
pub pair_room : (x first : List ℕ) (a : ℕ) (second : List ℕ) (b at room : ℕ) → x ≡ pair_line first a second b → at + length x ≤ room
    → at + (length first + length (decimal a) + (length second + length (decimal b) + 1)) ≤ room
unfolding pair_line
pair_room x first a second b at room e h = omega (arith, simp length-append at (ap length e))

-- The first part of a text that fits fits.
pub fits_first : (x y : List ℕ) (at room : ℕ) → at + length (x ++ y) ≤ room → at + length x ≤ room
fits_first x y at room h = omega (arith, length-append x y)

module _ (x y : List ℕ) (at : ℕ) (before mid : List ℕ) (m : ℕ) (first : Puts x at before mid m) where
  -- Once it is put the second does,
  fits_second : at + length (x ++ y) ≤ length before → m + length y ≤ length mid
  fits_second h = omega (arith, length-append x y)

  -- and then both are put as one.
  pub puts_both : (after : List ℕ) (r : ℕ) → Puts y m mid after r → Puts (x ++ y) at before after r
  puts_both after r second =
      record {
        end = omega (arith, length-append x y);
        long = second.long ∙ first.long;
        put = second.put ∙ rw (first.put, first.end) (sym (sets_append before at x y));
      }

-- A number of one digit.
module _ (n : ℕ) (few : n < 10) (at : ℕ) (before : List ℕ) where
  pub fits_one : at + length (decimal n) ≤ length before → at + 1 ≤ length before
  fits_one h = rw (decimal_one n few) at h

  pub puts_one : (after : List ℕ) (r : ℕ) → Puts (digit n) at before after r → Puts (decimal n) at before after r
  puts_one after r p = rw (decimal_one n few) p

-- A number of more: its tenth, then its last digit.
module _ (n : ℕ) (many : 10 ≤ n) (at : ℕ) (before : List ℕ) where
  pub fits_tenth : at + length (decimal n) ≤ length before → at + length (decimal (n / 10)) ≤ length before
  fits_tenth h = fits_first (decimal (n / 10)) (digit (n % 10)) at (length before) (rw (decimal_more n many) at h)

  module _ (mid : List ℕ) (m : ℕ) (first : Puts (decimal (n / 10)) at before mid m) where
    pub fits_last : at + length (decimal n) ≤ length before → m + 1 ≤ length mid
    fits_last h = fits_second (decimal (n / 10)) (digit (n % 10)) at before mid m first (rw (decimal_more n many) at h)

    pub puts_last : (after : List ℕ) (r : ℕ) → Puts (digit (n % 10)) m mid after r → Puts (decimal n) at before after r
    puts_last after r p = rw (decimal_more n many) (puts_both (decimal (n / 10)) (digit (n % 10)) at before mid m first after r p)

-- The loops: a part of a text is put, and what is left gives the whole.
pub record Rest (whole : List ℕ) (at : ℕ) (before : List ℕ) (left : List ℕ) (m : ℕ) (mid : List ℕ) : Type 0 where
  pub fits : m + length left ≤ length mid
  pub end : m + length left ≡ at + length whole
  pub long : length mid ≡ length before
  pub gives : sets mid m left ≡ sets before at whole

module _ (whole : List ℕ) (at : ℕ) (before : List ℕ) where
  pub rest_none : at + length whole ≤ length before → Rest whole at before whole at before
  rest_none h = record { fits = h; end = refl; long = refl; gives = refl }

  pub rest_more : (x y : List ℕ) (m : ℕ) (mid : List ℕ) → Rest whole at before (x ++ y) m mid → (next : List ℕ) (r : ℕ) → Puts x m mid next r
      → Rest whole at before y r next
  rest_more x y m mid rest next r p =
      record {
        fits = fits_second x y m mid next r p rest.fits;
        end = omega (arith, rest.end, length-append x y);
        long = p.long ∙ rest.long;
        gives = rw (p.put, p.end) (sym (sets_append mid m x y) ∙ rest.gives);
      }

  pub rest_done : (m : ℕ) (mid : List ℕ) → Rest whole at before [] m mid → Puts whole at before mid m
  rest_done m mid rest = record { end = omega (arith, rest.end); long = rest.long; put = rest.gives }
