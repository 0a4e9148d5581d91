-- A result is read back as it was written.
use Rattle.std.specs.Prelude.{◌≡◌, ℕ, ◌+◌, ◌*◌, length}
use Rattle.std.proofs.Math.Path.{refl}
use mathlib.Core.List.{List, [], ◌∷◌, ◌++◌, append_assoc, append-nil}
use Rattle.std.proofs.Common.{arith, length-append}
use Rattle.analysis.specs.Result.{section, single, step_entry, Stored, result_in, result_numbers, result_of}
use Rattle.form.specs.Numbers.{word_at}
use Rattle.form.specs.References.{record_entry}
use Rattle.network.specs.Network.{Network, givens_at, vertices_at, given_at}
use Rattle.stored.specs.Stored.{order_at, figures_at, step_at, stored_of}
use Rattle.stored.specs.Back.{written, word_back, Entry, section_back, section_ends}

-- A number of an entry, after some others.
number_back : (front entry rest tail : List ℕ) (n : ℕ)
    → word_at (written (front ++ (entry ++ (n ∷ rest))) tail) (2 * length front + 2 * length entry) ≡ n
number_back front entry rest tail n =
    let e : 2 * length front + 2 * length entry ≡ 2 * length (front ++ entry) = rw (length-append front entry) (omega arith) in
    rw (e, ← append_assoc front entry (n ∷ rest)) (word_back (front ++ entry) rest tail n)

-- A number, a record and a pivot.
single_entry : Entry single word_at 1
single_entry = record { long = λ x. refl; back = word_back }

record_entry_lem : Entry record_entry given_at 3
record_entry_lem =
    record {
      long = λ x. refl;
      back = λ front rest tail x i. record {
        kind = word_back front (x.first ∷ x.second ∷ rest) tail x.kind i;
        first = number_back front (x.kind ∷ []) (x.second ∷ rest) tail x.first i;
        second = number_back front (x.kind ∷ x.first ∷ []) rest tail x.second i;
      };
    }

step_entry_lem : Entry step_entry step_at 2
step_entry_lem =
    record {
      long = λ x. refl;
      back = λ front rest tail x i. record {
        vertex = word_back front (x.degree ∷ rest) tail x.vertex i;
        degree = number_back front (x.vertex ∷ []) rest tail x.degree i;
      };
    }

-- Five sections, whatever comes after them.
module _ (s tail : List ℕ) (r : Stored) where
  one : List ℕ
  one = section single r.variables

  two : List ℕ
  two = section record_entry r.records

  three : List ℕ
  three = section single r.answers

  four : List ℕ
  four = section step_entry r.order

  five : List ℕ
  five = section single r.figures

  sections_back : s ≡ written (one ++ (two ++ (three ++ (four ++ five)))) tail → stored_of s ≡ r
  unfolding stored_of one two three four five
  sections_back e =
      let front = (one ++ two) ++ three in
      let e₃ : s ≡ written ((one ++ two) ++ (three ++ (four ++ five))) tail = rw (append_assoc one two) e in
      let e₄ : s ≡ written (front ++ (four ++ five)) tail = rw (append_assoc (one ++ two) three) e₃ in
      let e₅ : s ≡ written ((front ++ four) ++ (five ++ [])) tail = rw (append_assoc front four, append-nil five) e₄ in
      let at₂ = section_ends single word_at 1 single_entry s [] (two ++ (three ++ (four ++ five))) tail r.variables e 0 refl in
      let at₃ = section_ends record_entry given_at 3 record_entry_lem s one (three ++ (four ++ five)) tail r.records e (givens_at s) at₂ in
      let at₄ = section_ends single word_at 1 single_entry s (one ++ two) (four ++ five) tail r.answers e₃ (vertices_at s) at₃ in
      let at₅ = section_ends step_entry step_at 2 step_entry_lem s front five tail r.order e₄ (order_at s) at₄ in
      λ i. record {
        variables = section_back single word_at 1 single_entry s [] (two ++ (three ++ (four ++ five))) tail r.variables e 0 refl i;
        records = section_back record_entry given_at 3 record_entry_lem s one (three ++ (four ++ five)) tail r.records e (givens_at s) at₂ i;
        answers = section_back single word_at 1 single_entry s (one ++ two) (four ++ five) tail r.answers e₃ (vertices_at s) at₃ i;
        order = section_back step_entry step_at 2 step_entry_lem s front five tail r.order e₄ (order_at s) at₄ i;
        figures = section_back single word_at 1 single_entry s (front ++ four) [] tail r.figures e₅ (figures_at s) at₅ i;
      }

-- The bytes of a network's result say what it has, whatever comes after them.
pub stored_back : (net : Network) (tail : List ℕ) → stored_of (result_of net ++ tail) ≡ result_in net
unfolding result_of result_numbers one two three four five
stored_back net tail = sections_back (result_of net ++ tail) tail (result_in net) refl
