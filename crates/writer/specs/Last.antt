-- The sections of a result after its records, in the terms that the program has: the counts of the file, its plan and the cells.
use Rattle.std.specs.Prelude.{◌≡◌, List, [], ◌∷◌, ◌++◌, map, ℕ, ◌+◌, ◌*◌, ◌<◌, get_or}
use Rattle.std.specs.List.{All}
use Rattle.analysis.specs.Result.{section, single, step_entry}
use Rattle.form.specs.Numbers.{put_word, put_numbers}
use Rattle.links.specs.Lists.{vertices}
use Rattle.links.specs.Links.{Step}
use Rattle.network.specs.declared.Sections.{Sections}
use Rattle.plan.specs.Plans.{none_taken}
use Rattle.plan.specs.declared.Plan.{Plan}
use Rattle.plan.specs.declared.Taken.{Taken}
use Rattle.sheet.specs.declared.Cell.{Cell}
use Rattle.sheet.specs.declared.Cell.TheVariants.{Start}

-- The start of each vertex is its answer in the end.
unfoldable pub answers_in : (Cell → ℕ) → ℕ → List ℕ
answers_in cells n = map (λ v. cells (Start v)) (vertices n)

-- A step as the definition has it,
abbrev pub step_of : Taken → Step
step_of t = record { vertex = t.vertex; degree = t.degree }

-- its entry,
abbrev pub taken_entry : Taken → List ℕ
taken_entry t = step_entry (step_of t)

-- and a plan's step k: the vertex and its degree.
abbrev pub step_at : Plan → ℕ → Step
step_at found k = step_of (get_or found.steps k none_taken)

-- A plan's first n steps.
unfoldable pub steps_in : Plan → ℕ → List Step
steps_in found n = map (step_at found) (vertices n)

-- Given formulas, joins, work.
unfoldable pub figures_in : ℕ → Plan → List ℕ
figures_in givens found = givens ∷ found.joins ∷ found.work ∷ []

-- Vertices (reference to answer); order (vertex, degree); figures.
unfoldable pub last_numbers : Sections → Plan → (Cell → ℕ) → List ℕ
last_numbers parts found cells =
    section single (answers_in cells parts.vertices)
    ++ (section step_entry (steps_in found parts.vertices) ++ section single (figures_in parts.givens found))

-- Where the count of the records is, and after so many records those of the vertices, of the order and of the figures.
abbrev pub records_at : Sections → ℕ
records_at parts = 2 + 2 * parts.variables

abbrev pub answers_at : Sections → ℕ → ℕ
answers_at parts count = records_at parts + 2 + 6 * count

abbrev pub steps_at : Sections → ℕ → ℕ
steps_at parts count = answers_at parts count + 2 + 2 * parts.vertices

abbrev pub figures_at : Sections → ℕ → ℕ
figures_at parts count = steps_at parts count + 2 + 4 * parts.vertices

-- The length of a result with so many records.
abbrev pub result_length : Sections → ℕ → ℕ
result_length parts count = 16 + 2 * parts.variables + 6 * count + 6 * parts.vertices

-- The vertex and the degree of a step are 16-bit numbers.
abbrev pub StepFits : Taken → Type 0
StepFits t = (t.vertex < 65536) × (t.degree < 65536)

-- The first n steps and the figures of a plan are 16-bit numbers.
pub record Fits (found : Plan) (n : ℕ) : Type 0 where
  pub vertex : (k : ℕ) → k < n → (get_or found.steps k none_taken).vertex < 65536
  pub degree : (k : ℕ) → k < n → (get_or found.steps k none_taken).degree < 65536
  pub joins : found.joins < 65536
  pub work : found.work < 65536

-- What the program writes after the records: their count before them, and the last sections after them. It gives the length of the result.
pub record Finished (parts : Sections) (found : Plan) (cells : Cell → ℕ) (count : ℕ) (before after : List ℕ) (r : ℕ) : Type 0 where
  pub bytes : after ≡ put_numbers (put_word before (records_at parts) count) (answers_at parts count) (last_numbers parts found cells)
  pub long : r ≡ result_length parts count
