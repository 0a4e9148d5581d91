-- Refusals 1 to 7: the first fault of a file, read from the front.
use Rattle.std.specs.Prelude.{cond, not, ◌&&◌, ◌||◌, List, ℕ, zero, suc, ◌+◌, ◌-◌, eqb, leb, ltb, length}
use Rattle.form.specs.Numbers.{word_at}
use Rattle.form.specs.References.{kind_and, kind_or, kind_not, formula}
use Rattle.form.specs.Refusals.{Verdict, fine, fault_if, first_of}
use Rattle.network.specs.declared.Limits.{Limits}
use Rattle.network.specs.Network.{variable_size, given_size, vertex_size, switch_size, variables_at, givens_at, vertices_at, switches_at, end_at}

-- 1: the file ends inside or before a count or entry. Its start.
unfoldable pub cut_fault : ℕ → List ℕ → ℕ → Verdict
cut_fault size s at = fault_if (ltb (length s) (at + size)) 1 at

-- 2: count above its limit. The count.
unfoldable pub count_fault : ℕ → List ℕ → ℕ → Verdict
count_fault limit s at = fault_if (ltb limit (word_at s at)) 2 at

-- 3: coil number not above the one before, of which the first has none. That number.
unfoldable pub coil_fault : List ℕ → ℕ → ℕ → Verdict
coil_fault s at k = fault_if (ltb 0 k && leb (word_at s at) (word_at s (at - 2))) 3 at

-- 4: kind not 1, 2 or 3. The kind.
unfoldable pub kind_fault : List ℕ → ℕ → Verdict
kind_fault s at = fault_if (not (eqb (word_at s at) kind_and || eqb (word_at s at) kind_or || eqb (word_at s at) kind_not)) 4 at

-- 5: reference not defined there, with as many defined as are given. That number.
unfoldable pub reference_fault : ℕ → List ℕ → ℕ → Verdict
reference_fault defined s at = fault_if (leb defined (word_at s at)) 5 at

-- 6: switch end is not a vertex. That number.
unfoldable pub end_fault : ℕ → List ℕ → ℕ → Verdict
end_fault vertices s at = fault_if (leb vertices (word_at s at)) 6 at

-- 7: bytes after the switches. The first such byte.
unfoldable pub trailing_fault : List ℕ → ℕ → Verdict
trailing_fault s at = fault_if (ltb at (length s)) 7 at

-- A given formula refers only to smaller references than its own; the second argument of not is 0, the one number below 1.
unfoldable pub second_below : ℕ → ℕ → ℕ
second_below kind own = cond (eqb kind kind_not) 1 own

-- A given formula's fields, left to right.
unfoldable pub given_fault : ℕ → List ℕ → ℕ → ℕ → Verdict
given_fault p s at k =
    first_of (kind_fault s at)
    (first_of (reference_fault (formula p k) s (at + 2)) (reference_fault (second_below (word_at s at) (formula p k)) s (at + 4)))

-- A vertex's field.
unfoldable pub vertex_fault : ℕ → List ℕ → ℕ → ℕ → Verdict
vertex_fault defined s at k = reference_fault defined s at

-- A switch's fields, left to right.
unfoldable pub switch_fault : ℕ → ℕ → List ℕ → ℕ → ℕ → Verdict
switch_fault vertices defined s at k =
    first_of (end_fault vertices s at)
    (first_of (end_fault vertices s (at + 2)) (first_of (reference_fault defined s (at + 4)) (reference_fault defined s (at + 6))))

-- An entry must be complete before its fields are tested: the entries from a place on, as many as are left, the first of them entry k.
unfoldable pub entries_fault : ℕ → (List ℕ → ℕ → ℕ → Verdict) → List ℕ → ℕ → ℕ → ℕ → Verdict
entries_fault size test s at k zero = fine
entries_fault size test s at k (suc left) =
    first_of (cut_fault size s at) (first_of (test s at k) (entries_fault size test s (at + size) (k + 1) left))

-- A count is tested on being read; then the entries follow.
unfoldable pub section_fault : ℕ → ℕ → (List ℕ → ℕ → ℕ → Verdict) → List ℕ → ℕ → Verdict
section_fault limit size test s at =
    first_of (cut_fault 2 s at) (first_of (count_fault limit s at) (entries_fault size test s (at + 2) 0 (word_at s at)))

-- The file is read from the front and the first fault wins.
unfoldable pub network_fault : Limits → List ℕ → Verdict
network_fault limits s =
    let p = word_at s variables_at in
    let defined = formula p (word_at s (givens_at s)) in
    let n = word_at s (vertices_at s) in
    first_of (section_fault limits.variables variable_size coil_fault s variables_at)
    (first_of (section_fault limits.givens given_size (given_fault p) s (givens_at s))
    (first_of (section_fault limits.vertices vertex_size (vertex_fault defined) s (vertices_at s))
    (first_of (section_fault limits.switches switch_size (switch_fault n defined) s (switches_at s)) (trailing_fault s (end_at s)))))
