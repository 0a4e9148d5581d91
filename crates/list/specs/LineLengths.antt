-- How long the lines of a listing are, where their numbers have at most five digits.
use Rattle.std.specs.Prelude.{◌≡◌, eqb, get_or}
use mathlib.Core.List.{List, [], ◌∷◌}
use Prim.Native.Nat.{ℕ, suc, ◌+◌, ◌*◌, ◌<◌, ◌≤◌}
use Rattle.std.proofs.Common.{mul-suc, length-append}
use Rattle.std.proofs.Math.Nat.{add-zero}
use native.Mathlib.Omega.{arith}
use Rattle.std.proofs.Math.ListN.{length}
use Rattle.form.specs.References.{kind_and, kind_or, kind_not}
use Rattle.form.specs.declared.Record.{Record}
use Rattle.laws.specs.Tests.{by_choice}
use Rattle.links.specs.Links.{Step}
use Rattle.text.specs.Decimals.{decimal_most}
use Rattle.text.specs.Texts.{ascii, decimal, pair_line}
use Rattle.lines.specs.Lines.{counts_line, pivot_line, kind_text, second_text, record_line, vertex_line, lines}
use Rattle.list.specs.Listing.{}
use Rattle.list.specs.Listing.{refused_line}

-- The numbers that have at most five digits.
abbrev pub Short : ℕ → Type 0
Short n = n < 100000

-- Each line by its texts and the most digits.
short_most : (n : ℕ) → Short n → length (decimal n) ≤ 5
short_most n h = decimal_most 5 n h (omega arith)

pair_most : (first : List ℕ) (a : ℕ) (second : List ℕ) (b : ℕ) → Short a → Short b
    → length (pair_line first a second b) ≤ length first + length second + 11
unfolding pair_line
pair_most first a second b h l = simp length-append (omega (arith, short_most a h, short_most b l))

pub refused_most : (number place : ℕ) → Short number → Short place → length (refused_line number place) ≤ 23
unfolding refused_line
refused_most number place h l = pair_most (ascii "refused ") number (ascii " at ") place h l

pub pivot_most_lem : (k : ℕ) (s : Step) → Short s.vertex → Short s.degree → length (pivot_line k s) ≤ 25
unfolding pivot_line
pivot_most_lem k s h l = pair_most (ascii "pivot ") s.vertex (ascii " degree ") s.degree h l

pub vertex_most : (v answer : ℕ) → Short v → Short answer → length (vertex_line v answer) ≤ 27
unfolding vertex_line
vertex_most v answer h l = pair_most (ascii "vertex ") v (ascii " formula ") answer h l

kind_most : (kind : ℕ) → length (kind_text kind) ≤ 5
unfolding kind_text
kind_most kind =
    by_choice (λ (text : List ℕ). length text ≤ 5) (eqb kind kind_and) _ _ (λ t. omega arith)
    (λ t. by_choice (λ (text : List ℕ). length text ≤ 5) (eqb kind kind_or) _ _ (λ t. omega arith) (λ t. omega arith))

second_most : (r : Record) → Short r.second → length (second_text r) ≤ 6
unfolding second_text
second_most r h =
    by_choice (λ (text : List ℕ). length text ≤ 6) (eqb r.kind kind_not) _ _ (λ t. omega arith) (λ t. omega (arith, short_most r.second h))

pub record_most : (reference : ℕ) (r : Record) → Short reference → Short r.first → Short r.second → length (record_line reference r) ≤ 24
unfolding record_line
record_most reference r h i j =
    simp length-append (omega (arith, short_most reference h, short_most r.first i, kind_most r.kind, second_most r j))

pub counts_most : (vertices switches joins work nodes : ℕ) → Short vertices → Short switches → Short joins → Short work → Short nodes
    → length (counts_line vertices switches joins work nodes) ≤ 65
unfolding counts_line
counts_most vertices switches joins work nodes h i j k l =
    simp length-append
    (omega (arith, short_most vertices h, short_most switches i, short_most joins j, short_most work k, short_most nodes l))

-- Lines of which none is longer than so much, one for each entry.
module _ {A : Type 0} (line : ℕ → A → List ℕ) (most : ℕ) (d : A) where
  pub lines_most : (k : ℕ) (xs : List A) → ((j : ℕ) → j < length xs → length (line (k + j) (get_or xs j d)) ≤ most)
      → length (lines line k xs) ≤ most * length xs
  unfolding lines
  lines_most k [] each = omega arith
  lines_most k (x ∷ xs) each =
      let first : length (line k x) ≤ most = simp add-zero at (each 0 (omega arith)) in
      let place : (j : ℕ) → k + suc j ≡ k + 1 + j = λ j. omega arith in
      let rest = lines_most (k + 1) xs (λ j h. rw place at (each (suc j) (omega arith))) in
      rw (length-append (line k x) (lines line (k + 1) xs), mul-suc) (omega arith)
