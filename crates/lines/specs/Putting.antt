-- The lines as they are put: the parts of each, and the room for these.
use Rattle.std.specs.Prelude.{◌≡◌, List, [], ◌∷◌, ◌++◌, ℕ, ◌+◌, ◌≤◌, length}
use Rattle.std.proofs.Math.Path.{refl}
use Rattle.std.proofs.Common.{ap, arith, length-append}
use borrow.Author.Tests.{eq-eqb, ne_eqb}
use Rattle.form.specs.References.{kind_and, kind_or, kind_not}
use Rattle.form.specs.declared.Record.{Record}
use Rattle.links.specs.Links.{Step}
use Rattle.text.specs.Decimals.{decimal_shorter}
use Rattle.text.specs.Puts.{Puts}
use Rattle.text.specs.Texts.{ascii, ending, decimal, field, pair_line}
use Rattle.lines.specs.Lines.{counts_line, pivot_line, kind_text, second_text, record_line, vertex_line, lines}

-- Lines of numbers that are read.
pub pivot_line_lem : (k : ℕ) (p : Step) (vertex degree : ℕ) → vertex ≡ p.vertex → degree ≡ p.degree
    → pivot_line k p ≡ pair_line (ascii "pivot ") vertex (ascii " degree ") degree
unfolding pivot_line
pivot_line_lem k p vertex degree a b = cc

pub vertex_line_lem : (v answer read : ℕ) → read ≡ answer → vertex_line v answer ≡ pair_line (ascii "vertex ") v (ascii " formula ") read
unfolding vertex_line
vertex_line_lem v answer read a = cc

pub record_line_parts : (reference : ℕ) (r : Record) (kind : List ℕ) (first : ℕ) → kind ≡ kind_text r.kind → first ≡ r.first
    → record_line reference r ≡ field (ascii "f ") reference ++ (field kind first ++ (second_text r ++ ending))
unfolding record_line
record_line_parts reference r kind first a b = cc

-- Each kind's text.
module _ (kind : ℕ) where
  pub and_text : kind ≡ kind_and → kind_text kind ≡ ascii " and "
  unfolding kind_text
  and_text e = rw (eq-eqb kind kind_and e)

  module _ (a : kind ≡ kind_and → ⊥) where
    pub or_text : kind ≡ kind_or → kind_text kind ≡ ascii " or "
    unfolding kind_text
    or_text e = rw (ne_eqb kind kind_and a, eq-eqb kind kind_or e)

    pub not_text : (kind ≡ kind_or → ⊥) → kind_text kind ≡ ascii " not "
    unfolding kind_text
    not_text o = rw (ne_eqb kind kind_and a, ne_eqb kind kind_or o)

-- The room of the first line, by its numbers: its texts are 40 bytes.
abbrev pub counts_room : ℕ → ℕ → ℕ → ℕ → ℕ → ℕ
counts_room vertices switches joins work nodes =
    40
    + (length (decimal vertices) + (length (decimal switches) + (length (decimal joins) + (length (decimal work) + length (decimal nodes)))))

pub counts_long : (vertices switches joins work nodes : ℕ)
    → length (counts_line vertices switches joins work nodes) ≡ counts_room vertices switches joins work nodes
unfolding counts_line
counts_long vertices switches joins work nodes = simp length-append (omega arith)

-- The second argument, and that not has none.
module _ (r : Record) where
  pub second_none : r.kind ≡ kind_not → (at : ℕ) (before : List ℕ) → Puts (second_text r) at before before at
  unfolding second_text
  second_none e at before = rw (eq-eqb r.kind kind_not e) (record { end = omega arith; long = refl; put = refl })

  module _ (e : r.kind ≡ kind_not → ⊥) (second : ℕ) (is : second ≡ r.second) where
    pub second_field : second_text r ≡ field (ascii " ") second
    unfolding second_text
    second_field = rw (ne_eqb r.kind kind_not e, is)

    pub second_room : (at room : ℕ) → at + length (second_text r) ≤ room → at + (1 + length (decimal second)) ≤ room
    second_room at room h = omega (arith, ap length second_field)

-- The room of a record's line, by its parts: its reference, its kind and first argument, its second.
abbrev pub record_room : ℕ → Record → ℕ
record_room reference r =
    3 + (length (decimal reference) + (length (kind_text r.kind) + length (decimal r.first) + length (second_text r)))

pub record_long : (reference : ℕ) (r : Record) → length (record_line reference r) ≡ record_room reference r
unfolding record_line
record_long reference r = simp length-append (omega arith)

-- A smaller reference takes no more room, nor do the lines of records that are numbered from a smaller one on.
record_shorter : (m n : ℕ) (r : Record) → m ≤ n → length (record_line m r) ≤ length (record_line n r)
record_shorter m n r h = omega (arith, record_long m r, record_long n r, decimal_shorter m n h)

pub records_shorter : (m n : ℕ) (xs : List Record) → m ≤ n → length (lines record_line m xs) ≤ length (lines record_line n xs)
unfolding lines
records_shorter m n [] h = omega arith
records_shorter m n (x ∷ xs) h =
    rw (length-append (record_line m x) (lines record_line (m + 1) xs), length-append (record_line n x) (lines record_line (n + 1) xs))
    (omega (arith, record_shorter m n x h, records_shorter (m + 1) (n + 1) xs (omega arith)))
