-- The sheet from which the elimination starts, in an array of cells and a lent buffer.
use Rattle.std.specs.Prelude.{◌≡◌, List, ℕ, ◌+◌, length}
use Rattle.std.proofs.Math.Path.{ap}
use Rattle.std.proofs.Common.{◌∙◌}
use Rattle.formula.specs.Givens.{Passed}
use Rattle.network.specs.Network.{edition, side, network_of}
use Rattle.network.specs.Layout.{Sound}
use Rattle.network.specs.Lists.{variables_length}
use Rattle.network.specs.declared.Sections.{Sections}
use Rattle.records.specs.Grown.{Table, Grown, grown_then, table_after}
use Rattle.givens.specs.Passed.{passed_of, PassedIn}
use Rattle.links.specs.Switches.{no_links, links_of, joins_of}
use Rattle.sheet.specs.Perform.{Sheet}
use Rattle.operations.specs.Runs.{sheet_in, Held, Runs}
use Rattle.operations.specs.declared.Worksheet.{Worksheet}
use Rattle.operations.specs.Worksheets.{Able}
use Rattle.records.specs.Entered.{Noted}
use Rattle.rows.specs.Table.{links_in}
use Rattle.analysis.specs.Wiring.{passed, translated, starting, wire_all, wired}
use Rattle.wiring.specs.Switches.{Translating, Wires}
use Rattle.wiring.specs.Starts.{Started, started_held, started_cells}

-- The sheet is wired, at most a record for each given formula and each join was added, and the links are those of the switches.
pub record WiredIn (file : List ℕ) (parts : Sections) (base : ℕ) (out cells' links' out' : List ℕ) (count : ℕ) : Type 0 where
  pub sheet : sheet_in cells' out' base count ≡ wired (network_of file)
  pub grown : Grown parts.variables base (parts.givens + joins_of (network_of file).switches) out 0 out' count
  pub held : Held parts.variables count cells'
  pub graph : links_in links' ≡ links_of (network_of file).switches
  pub long : length links' ≡ side

module _ (file : List ℕ) (parts : Sections) (sound : Sound edition file parts) (base : ℕ) (out references o : List ℕ) where
  module _ (n : ℕ) (all : PassedIn file parts base out references o n) where
    passed_is : passed_of file parts ≡ passed (network_of file)
    unfolding passed
    passed_is = rw (variables_length sound.layout)

    -- References are translated by what the given formulas have become.
    pub passed_translates : Translating file parts references n
    unfolding translated
    passed_translates =
        record {
          is = λ x h. all.translates x h ∙ rw (passed_is, variables_length sound.layout);
          below = all.below;
        }

  -- The starts have been put beside the records that the given formulas have become.
  module _ (w : Worksheet) (variables : w.records.variables ≡ parts.variables) (begins : w.records.base ≡ base)
      (all : PassedIn file parts base out references o w.records.count)
      (started : Started parts.variables references (network_of file).starts w.cells parts.vertices) where
    -- There is room for the joins.
    pub joins_able : Table parts.variables base (parts.givens + joins_of (network_of file).switches) 0 out → Noted w.records o
        → Able (joins_of (network_of file).switches) w o
    joins_able table noted =
        record {
          ready = rw (variables, begins)
              (record {
                held = started_held file parts sound references w.cells w.records.count started (passed_translates w.records.count all);
                table = table_after parts.variables base parts.givens (joins_of (network_of file).switches) table all.grown;
              });
          noted = noted;
        }

    sheet : ◌≡◌ {A = Sheet} (sheet_in w.cells o base w.records.count)
        (record { cells = starting (network_of file); records = (passed (network_of file)).records })
    unfolding sheet_in
    sheet =
        λ i. record {
          cells = started_cells file parts sound references w.cells w.records.count started (passed_translates w.records.count all) i;
          records = (all.records ∙ ap (λ (st : Passed). st.records) (passed_is w.records.count all)) i;
        }

    pub wired_in : (w' : Worksheet) (l e : List ℕ)
        → Wires (wire_all (network_of file) no_links (network_of file).switches) (joins_of (network_of file).switches)
        (links_of (network_of file).switches) w o w' l e → WiredIn file parts base out w'.cells l e w'.records.count
    unfolding wired
    wired_in w' l e x =
        let f = wire_all (network_of file) no_links (network_of file).switches in
        let runs : Runs parts.variables base f (joins_of (network_of file).switches) w.cells o w.records.count w'.cells e w'.records.count =
        rw (variables, begins) at x.worked.runs in
        record {
          sheet = runs.sheet ∙ ap f sheet;
          grown = grown_then parts.variables base parts.givens (joins_of (network_of file).switches) all.grown runs.grown;
          held = runs.held;
          graph = x.graph;
          long = x.long;
        }
