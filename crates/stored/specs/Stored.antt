-- The result form, read back from its bytes.
use Rattle.std.specs.Prelude.{List, ℕ, ◌+◌, get_or}
use Rattle.analysis.specs.Result.{Stored}
use Rattle.form.specs.Numbers.{word_at}
use Rattle.links.specs.Links.{Step}
use Rattle.network.specs.Network.{variable_size, given_size, vertex_size, after, variables_at, givens_at, vertices_at, switches_at, given_at, section_of}

-- The bytes of a pivot, and of a figure.
abbrev pub step_size : ℕ
step_size = 4

abbrev pub figure_size : ℕ
figure_size = 2

-- Five sections in this order, each after its count. Variables, records and vertices are laid out like a network's variables, given formulas and
-- vertices; the order comes after them, and then the figures.
abbrev pub order_at : List ℕ → ℕ
order_at s = switches_at s

abbrev pub figures_at : List ℕ → ℕ
figures_at s = after step_size s (order_at s)

-- A pivot: vertex, degree.
abbrev pub step_at : List ℕ → ℕ → Step
step_at s at = record { vertex = word_at s at; degree = word_at s (at + 2) }

-- What a result's bytes say.
unfoldable pub stored_of : List ℕ → Stored
stored_of s =
    record {
      variables = section_of word_at variable_size s variables_at;
      records = section_of given_at given_size s (givens_at s);
      answers = section_of word_at vertex_size s (vertices_at s);
      order = section_of step_at step_size s (order_at s);
      figures = section_of word_at figure_size s (figures_at s);
    }

-- The figures: given formulas, joins, work.
abbrev pub givens_figure : Stored → ℕ
givens_figure r = get_or r.figures 0 0

abbrev pub joins_figure : Stored → ℕ
joins_figure r = get_or r.figures 1 0

abbrev pub work_figure : Stored → ℕ
work_figure r = get_or r.figures 2 0
