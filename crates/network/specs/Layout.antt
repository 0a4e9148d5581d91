-- What acceptance tells, in terms of the file's counts and places.
use Rattle.std.specs.Prelude.{◌≡◌, List, ℕ, ◌+◌, ◌*◌, ◌<◌, ◌≤◌, length}
use Rattle.form.specs.Numbers.{word_at}
use Rattle.form.specs.References.{formula}
use Rattle.form.specs.Refusals.{Answer, answer}
use Rattle.form.specs.declared.Record.{Record}
use Rattle.network.specs.declared.Limits.{Limits}
use Rattle.network.specs.declared.Sections.{Sections}
use Rattle.network.specs.declared.Switch.{Switch}
use Rattle.network.specs.Network.{variables_at, givens_at, vertices_at, switches_at, given_at, switch_at}
use Rattle.network.specs.Faults.{second_below, network_fault}

-- The counts of a file, and where they are.
abbrev pub sections_of : List ℕ → Sections
sections_of s =
    record {
      variables = word_at s variables_at;
      givens = word_at s (givens_at s);
      vertices = word_at s (vertices_at s);
      switches = word_at s (switches_at s);
      givens_at = givens_at s;
      vertices_at = vertices_at s;
      switches_at = switches_at s;
    }

-- Every byte string is accepted, with its counts and the places of its sections, or refused with its first fault.
abbrev pub network_answer : Limits → List ℕ → Answer Sections
network_answer limits s = answer (network_fault limits s) (sections_of s)

-- Where coil number k is, and given formula k, the start of vertex k, and switch k.
abbrev pub coil_place : ℕ → ℕ
coil_place k = 2 + 2 * k

abbrev pub given_place : Sections → ℕ → ℕ
given_place parts k = parts.givens_at + 2 + 6 * k

abbrev pub start_place : Sections → ℕ → ℕ
start_place parts k = parts.vertices_at + 2 + 2 * k

abbrev pub switch_place : Sections → ℕ → ℕ
switch_place parts k = parts.switches_at + 2 + 8 * k

-- How many references are defined in the file.
abbrev pub defined_in : Sections → ℕ
defined_in parts = formula parts.variables parts.givens

-- A given formula with this reference has a kind, and refers to smaller ones; the second argument of not is 0.
pub record GivenIn (own : ℕ) (g : Record) : Type 0 where
  pub low : 1 ≤ g.kind
  pub high : g.kind ≤ 3
  pub first : g.first < own
  pub second : g.second < second_below g.kind own

-- A switch's ends are vertices, and its labels are defined.
pub record SwitchIn (vertices defined : ℕ) (w : Switch) : Type 0 where
  pub first : w.first < vertices
  pub second : w.second < vertices
  pub there : w.there < defined
  pub back : w.back < defined

-- The counts are within an edition's limits.
pub record Within (limits : Limits) (parts : Sections) : Type 0 where
  pub variables : parts.variables ≤ limits.variables
  pub givens : parts.givens ≤ limits.givens
  pub vertices : parts.vertices ≤ limits.vertices
  pub switches : parts.switches ≤ limits.switches

-- The sections fill the file; coils ascend, and every entry is in range.
pub record Layout (s : List ℕ) (parts : Sections) : Type 0 where
  pub sections : parts ≡ sections_of s
  pub givens_at_lem : parts.givens_at ≡ coil_place parts.variables
  pub vertices_at_lem : parts.vertices_at ≡ given_place parts parts.givens
  pub switches_at_lem : parts.switches_at ≡ start_place parts parts.vertices
  pub whole : switch_place parts parts.switches ≡ length s
  pub coil : (k : ℕ) → k + 1 < parts.variables → word_at s (coil_place k) < word_at s (coil_place (k + 1))
  pub given : (k : ℕ) → k < parts.givens → GivenIn (formula parts.variables k) (given_at s (given_place parts k))
  pub start : (k : ℕ) → k < parts.vertices → word_at s (start_place parts k) < defined_in parts
  pub switch :
      (k : ℕ) → k < parts.switches → SwitchIn parts.vertices (defined_in parts) (switch_at s (switch_place parts k))

-- What acceptance under an edition's limits tells.
pub record Sound (limits : Limits) (s : List ℕ) (parts : Sections) : Type 0 where
  pub layout : Layout s parts
  pub within : Within limits parts

-- Given formula k of an accepted file,
pub record GivenRead (s : List ℕ) (parts : Sections) (k : ℕ) (r : Record) : Type 0 where
  pub is : r ≡ given_at s (given_place parts k)
  pub range : GivenIn (formula parts.variables k) r

-- the start of vertex k,
pub record StartRead (s : List ℕ) (parts : Sections) (k r : ℕ) : Type 0 where
  pub is : r ≡ word_at s (start_place parts k)
  pub range : r < defined_in parts

-- and switch k.
pub record SwitchRead (s : List ℕ) (parts : Sections) (k : ℕ) (r : Switch) : Type 0 where
  pub is : r ≡ switch_at s (switch_place parts k)
  pub range : SwitchIn parts.vertices (defined_in parts) r
