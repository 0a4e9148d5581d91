-- What `list` promises, and that each way out keeps it.
use Rattle.std.specs.Prelude.{◌≡◌, List, ◌++◌, ℕ, ◌+◌, ◌<◌, ◌≤◌, length, take, drop, Result, Err}
use Rattle.std.proofs.Common.{sym, ◌∙◌, arith, lt-ltb, le-ltb, length-append, length-take-le}
use Rattle.std.proofs.Math.Nat.{zero-add}
use Rattle.std.proofs.lemmas.List.Edits.{sets-eq}
use Rattle.form.specs.Refusals.{number_of, place_of}
use Rattle.form.specs.declared.Fault.{Fault}
use Rattle.network.specs.Layout.{network_answer}
use Rattle.network.specs.Network.{edition}
use Rattle.reader.specs.Answers.{checked_of}
use Rattle.reader.specs.Callers.{reads_refused}
use Rattle.network.specs.declared.Sections.{Sections}
use Rattle.text.specs.Puts.{Puts}
use Rattle.text.specs.Putting.{pair_room}
use Rattle.text.specs.Texts.{ascii, decimal, pair_line}
use Rattle.list.specs.Lengths.{listing_fits}
use Rattle.list.specs.Listing.{refused_line, listing_for, listing, listing_room, put_in}

-- The text is put at the front of the lent buffer, and its length is given; all other bytes stay.
pub record Promise (s before after : List ℕ) (r : ℕ) : Type 0 where
  pub long : r ≡ length (put_in (length before) s)
  pub bytes : after ≡ put_in (length before) s ++ drop (length (put_in (length before) s)) before

-- It is within the buffer,
pub list_within : {s before after : List ℕ} {r : ℕ} → Promise s before after r → r ≤ length after
list_within {s} {before} p = rw (p.bytes, length-append (put_in (length before) s) _) (omega (arith, p.long))

-- and so it is the length of the buffer's first part.
pub list_counts : {s before after : List ℕ} {r : ℕ} → Promise s before after r → r ≡ length (take r after)
list_counts {r = r} p = sym (length-take-le r _ (list_within p))

-- The line of a refusal.
module _ (f : Fault) (number place : ℕ) (a : number ≡ number_of f) (b : place ≡ place_of f) where
  line_is : pair_line (ascii "refused ") number (ascii " at ") place ≡ refused_line (number_of f) (place_of f)
  unfolding refused_line
  line_is = rw (a, b)

  pub line_room : (out : List ℕ) → length (refused_line (number_of f) (place_of f)) ≤ length out
      → 0 + (8 + length (decimal number) + (4 + length (decimal place) + 1)) ≤ length out
  line_room out h = pair_room _ (ascii "refused ") number (ascii " at ") place 0 (length out) (sym line_is) (omega arith)

  pub line_put : (before after : List ℕ) (r : ℕ) → Puts (pair_line (ascii "refused ") number (ascii " at ") place) 0 before after r
      → Puts (refused_line (number_of f) (place_of f)) 0 before after r
  line_put before after r puts = rw (← line_is) puts

module _ (s before : List ℕ) where
  -- There is too little room for some listing.
  pub list_short : length before < listing_room → Promise s before before 0
  unfolding put_in
  list_short h = record { long = rw (lt-ltb _ _ h); bytes = rw (lt-ltb _ _ h) }

  module _ (h : listing_room ≤ length before) where
    -- The listing has been put.
    pub list_put : (after : List ℕ) (r : ℕ) → Puts (listing s) 0 before after r → Promise s before after r
    unfolding put_in
    list_put after r puts =
        let fits = listing_fits s in
        let t : put_in (length before) s ≡ listing s = rw (le-ltb _ _ h) in
        record { long = rw t (omega (arith, puts.end)); bytes = rw t (puts.put ∙ rw zero-add at (sets-eq (listing s) before 0 (omega arith))) }

    -- The file is refused: its line fits,
    module _ (r : Result Sections Fault) (f : Fault) (e : r ≡ Err f) (a : checked_of r ≡ network_answer edition s) where
      unread : listing s ≡ refused_line (number_of f) (place_of f)
      unfolding listing listing_for
      unread = let v = reads_refused s r f e a in rw (← v)

      pub unread_fits : length (refused_line (number_of f) (place_of f)) ≤ length before
      unread_fits = rw (← unread) (omega (arith, listing_fits s))

      -- and has been put.
      pub unread_put : (after : List ℕ) (n : ℕ) → Puts (refused_line (number_of f) (place_of f)) 0 before after n → Promise s before after n
      unread_put after n puts = list_put after n (rw unread puts)
