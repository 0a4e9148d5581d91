-- What the given formulas of an accepted file become: records in a lent buffer, and in an array the reference of each.
use Rattle.std.specs.Prelude.{◌≡◌, List, ℕ, ◌≤◌, ◌<◌, length, get_or, take}
use Rattle.form.specs.References.{formula}
use Rattle.form.specs.declared.Record.{Record}
use Rattle.formula.specs.Make.{Outcome, make}
use Rattle.formula.specs.Givens.{Passed, unpassed, translate, pass}
use Rattle.network.specs.declared.Sections.{Sections}
use Rattle.network.specs.Network.{edition, network_of}
use Rattle.network.specs.Layout.{defined_in}
use Rattle.records.specs.Bytes.{records_in}
use Rattle.records.specs.Grown.{Grown}

-- What the given formulas of a file become.
abbrev pub passed_of : List ℕ → Sections → Passed
passed_of file parts = pass parts.variables (network_of file).givens unpassed

-- A given formula by the rules, its arguments translated.
abbrev pub make_given : ℕ → List ℕ → Record → List Record → Outcome
make_given p references g = make p g.kind (translate p references g.first) (translate p references g.second)

-- The arguments of a given formula have a place in the array, and what they have become is there.
pub record Translatable (p : ℕ) (references : List ℕ) (count : ℕ) (g : Record) : Type 0 where
  pub variables : p ≤ edition.variables
  pub first : g.first < formula p edition.givens
  pub second : g.second < formula p edition.givens
  pub first_there : translate p references g.first < formula p count
  pub second_there : translate p references g.second < formula p count

-- All given formulas have passed: their records are in the buffer, and the array translates every reference of the file to one that is there.
pub record PassedIn (file : List ℕ) (parts : Sections) (base : ℕ) (entry references exit : List ℕ) (count : ℕ) : Type 0 where
  pub grown : Grown parts.variables base parts.givens entry 0 exit count
  pub became : (passed_of file parts).references ≡ take parts.givens references
  pub records : records_in exit base count ≡ (passed_of file parts).records
  pub translates :
      (x : ℕ) → x < defined_in parts → translate parts.variables references x ≡ translate parts.variables (passed_of file parts).references x
  pub below : (x : ℕ) → translate parts.variables references x < formula parts.variables count
  pub clear : (j : ℕ) → parts.givens ≤ j → get_or references j 0 ≡ 0
  pub long : length references ≡ edition.givens
