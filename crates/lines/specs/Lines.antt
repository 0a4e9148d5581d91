-- The lines of a result.
use Rattle.std.specs.Prelude.{cond, List, [], ◌∷◌, ◌++◌, ℕ, ◌+◌, eqb, length}
use Rattle.analysis.specs.Result.{Stored}
use Rattle.form.specs.References.{kind_and, kind_or, kind_not, formula}
use Rattle.form.specs.declared.Record.{Record}
use Rattle.links.specs.Links.{Step}
use Rattle.stored.specs.Stored.{joins_figure, work_figure}
use Rattle.text.specs.Texts.{ascii, ending, field, pair_line}

-- The first line gives the counts, nodes being records made.
unfoldable pub counts_line : ℕ → ℕ → ℕ → ℕ → ℕ → List ℕ
counts_line vertices switches joins work nodes =
    field (ascii "vertices ") vertices
    ++ (field (ascii " switches ") switches
    ++ (field (ascii " joins ") joins
    ++ (field (ascii " work ") work
    ++ (field (ascii " nodes ") nodes ++ ending))))

-- A pivot line gives vertex and degree when taken;
unfoldable pub pivot_line : ℕ → Step → List ℕ
pivot_line k s = pair_line (ascii "pivot ") s.vertex (ascii " degree ") s.degree

-- an f line reference, kind,
unfoldable pub kind_text : ℕ → List ℕ
kind_text kind = cond (eqb kind kind_and) (ascii " and ") (cond (eqb kind kind_or) (ascii " or ") (ascii " not "))

-- arguments (one for not);
unfoldable pub second_text : Record → List ℕ
second_text r = cond (eqb r.kind kind_not) [] (field (ascii " ") r.second)

unfoldable pub record_line : ℕ → Record → List ℕ
record_line reference r = field (ascii "f ") reference ++ (field (kind_text r.kind) r.first ++ (second_text r ++ ending))

-- a vertex line its answer.
unfoldable pub vertex_line : ℕ → ℕ → List ℕ
vertex_line v answer = pair_line (ascii "vertex ") v (ascii " formula ") answer

-- A line for each of some entries, numbered from k on.
unfoldable pub lines : {A : Type 0} → (ℕ → A → List ℕ) → ℕ → List A → List ℕ
lines line k [] = []
lines line k (x ∷ xs) = line k x ++ lines line (k + 1) xs

-- The lines of a result. The switch count is the file's.
unfoldable pub result_lines : ℕ → Stored → List ℕ
result_lines switches r =
    counts_line (length r.answers) switches (joins_figure r) (work_figure r) (length r.records)
    ++ (lines pivot_line 0 r.order
    ++ (lines record_line (formula (length r.variables) 0) r.records ++ lines vertex_line 0 r.answers))
