-- The three demands on the analyser, about every call of `analyse` and of `direct`, and what the requests say must hold. Each is derived in a line or two
-- from where it is proved.
use Rattle.std.specs.Prelude.{◌≡◌, ◌↔◌, true, false, ℕ, ◌+◌, ◌*◌, ◌<◌, ◌≤◌, eqb, length, get_or, take, drop, Result}
use Rattle.std.proofs.Math.Bool.{So}
use mathlib.Core.List.{List, [], ◌∷◌, ◌++◌, Memᴰ}
use Rattle.std.proofs.Common.{arith}
use Rattle.analyse.specs.Promise as analyse
use Rattle.analyse.specs.Unique as analysed
use Rattle.analysis.specs.Analysis.{analysis_fault, analysis}
use Rattle.analysis.specs.Result.{Stored, result_of}
use Rattle.analysis.specs.Room.{operations_most, room_most}
use Rattle.costs.specs.Built.{Built}
use Rattle.costs.specs.Closed.{costs}
use Rattle.direct.specs.Direct.{direct_fault, direct_answer, Answered}
use Rattle.direct.specs.Promise as direct
use Rattle.direct.specs.Unique as answered
use Rattle.elimination.specs.Plan.{work_of}
use Rattle.form.specs.Refusals.{fine, refused, accepted, reply_of}
use Rattle.form.specs.Verdicts as verdicts
use Rattle.form.specs.declared.Fault.{Fault}
use Rattle.form.specs.References.{kind_not, constant_true, formula}
use Rattle.form.specs.declared.Record.{Record}
use Rattle.formula.specs.Make.{none, same, index_of, named, old, holds, absorbed, make}
use Rattle.formula.specs.MakeLaws.{Orderly}
use Rattle.formula.proofs.MakeLaws.{absorbs}
use Rattle.formula.specs.Search.{Distinct, larger}
use Rattle.formula.proofs.SearchLaws.{distinct, found_at, none_before}
use Rattle.links.specs.Links.{Graph, Step, order, steps}
use Rattle.links.specs.Lists.{vertices}
use Rattle.links.specs.Switches.{links_of, joins_of}
use Rattle.meaning.specs.System.{system_of}
use Rattle.network.specs.Faults.{network_fault}
use Rattle.network.specs.Network.{edition, network_of}
use Rattle.paths.specs.Paths.{Reached}
use Rattle.plan.specs.Measure.{work_in, room_for}
use Rattle.stored.specs.Stored.{stored_of, givens_figure, joins_figure, work_figure}
use Rattle.stored.specs.Truths.{truth_in}
use Rattle.truth.specs.Systems.{Solution}
use Rattle.demands.specs.Outcomes.{AnswersOrRefuses, result_or_refusal, answer_or_refusal}

-- A call of `analyse`: the file s, the lent buffer before and after, and the reply r.
module _ (s before after : List ℕ) (r : Result ℕ Fault) (call : analyse.Promise s before after r) where
  -- DEMAND 1. Every byte string is analysed, or refused with the number and the place of its first fault and the buffer as it came, and never both.
  -- Ruled out: refusing everything, another cause or place, a byte written before a refusal or beyond the result.
  pub analysed_or_refused : let result = result_of (network_of s) in
      AnswersOrRefuses (analysis_fault edition s (length before)) r (length result) (after ≡ result ++ drop (length result) before) before after
  unfolding analysis
  analysed_or_refused = result_or_refusal (analysis_fault edition s (length before)) r _ before after call.reply call.bytes

  -- Where it is answered: the stored result, the network's n vertices and its bare links g.
  module _ (written : ℕ) (is : reply_of r ≡ accepted written) where
    abbrev stored : Stored
    stored = stored_of after

    abbrev n : ℕ
    n = length (network_of s).starts

    abbrev g : Graph
    g = links_of (network_of s).switches

    -- The stored coils are as given, and there is a stored answer for each vertex.
    pub coils_as_given : stored.variables ≡ (network_of s).variables
    coils_as_given = (analyse.told_answered call written is).truths.coils

    pub answer_for_each : length stored.answers ≡ n
    answer_for_each = (analyse.told_answered call written is).truths.answers

    -- DEMAND 2. Under every setting of the coils, a vertex's stored formula, read off the stored records, is true exactly when some path, possibly of
    -- no contacts, leads to it from a vertex whose own starting formula is true, through contacts whose labels are true in the direction travelled.
    -- Ruled out: formula 0 everywhere, one answer for all files, no records, a path left out, a label taken the wrong way round.
    pub formulas_are_paths : (setting : List ℕ) → length setting ≡ length (network_of s).variables → (v : ℕ) → v < n
        → So (truth_in stored setting v) ↔ Reached (network_of s) setting v
    formulas_are_paths = (analyse.told_answered call written is).truths.paths

    -- In the paper's words: the truths satisfy the network's equations (definition 4), and are the least that do (definition 5).
    pub formulas_solve : (setting : List ℕ) → length setting ≡ length (network_of s).variables
        → Solution (system_of (network_of s) setting) (vertices n) (truth_in stored setting)
    formulas_solve = (analyse.told_answered call written is).truths.solution

    -- The reported given formulas and joins are the file's.
    pub givens_are_the_files : givens_figure stored ≡ length (network_of s).givens
    givens_are_the_files = (analyse.told_answered call written is).figures.givens

    pub joins_are_the_files : joins_figure stored ≡ joins_of (network_of s).switches
    joins_are_the_files = (analyse.told_answered call written is).figures.joins

    -- The reported pivots are rule M's on the bare links, in its order, each with the neighbours left at that moment. Ruled out: all eliminations in the
    -- first step and pivots that are only named later.
    pub pivots_are_rule_m : stored.order ≡ steps g (vertices n) (order n g)
    pivots_are_rule_m = (analyse.told_answered call written is).figures.pivots

    -- DEMAND 3. The reported work is the number of operations that figure 1 asks for on the bare links. Ruled out: an invented figure.
    pub work_is_asked : work_figure stored ≡ work_of n g
    work_is_asked = (analyse.told_answered call written is).figures.work

    -- It is the sum of 2d + 2d² − 2f over the pivots (no fill link counts twice), and at most 2(n³ − n)/3, the sum of 2d + 2d² over all d below n.
    pub work_is_cost : work_figure stored ≡ costs g (vertices n) (order n g)
    work_is_cost = (analyse.told_answered call written is).figures.cost

    pub work_at_most : 3 * work_figure stored + 2 * n ≤ 2 * n * n * n
    work_at_most = (analyse.told_answered call written is).figures.most

    -- Records never exceed given formulas plus joins plus work. Ruled out: a record that nothing asked for.
    pub records_few : length stored.records ≤ givens_figure stored + joins_figure stored + work_figure stored
    records_few = (analyse.told_answered call written is).figures.few

    -- A stored record's arguments are older than itself, and making it out of those before it adds it: no rule, absorption among them, gives a reference
    -- that is there. Ruled out: a record that the rules spare, such as coil 7 or (coil 7 and coil 9).
    pub records_in_order : Orderly (length stored.variables) stored.records
    records_in_order = (analyse.told_answered call written is).figures.orderly

    pub records_needed : (k : ℕ) → k < length stored.records → let x = get_or stored.records k none in
        (make (length stored.variables) x.kind x.first x.second (take k stored.records)).added ≡ x ∷ []
    records_needed = records_in_order.needed

    -- So no two stored records are equal.
    pub records_differ : Distinct stored.records
    records_differ = distinct (length stored.variables) stored.records records_in_order

    -- A network is built from nothing by adding terminals, each linked to none, to one, or to two that are then linked to each other (that link kept
    -- or dropped), exactly when no reported pivot has over two neighbours left, and then costs at most twelve a vertex. Ruled out: pivots out of turn.
    pub built_iff_narrow : Built g (vertices n) ↔ ((p : Step) → Memᴰ p stored.order → p.degree ≤ 2)
    built_iff_narrow = (analyse.told_answered call written is).figures.narrow

    pub built_work_twelve : Built g (vertices n) → work_figure stored ≤ 12 * n
    built_work_twelve = (analyse.told_answered call written is).figures.twelve

-- Absorption, over records in order: an argument of and or or, no constant, that is held by the record which the other argument names, gives a for
-- a or (a and c) and a and (a or c), and that record itself for a or (a or c) and a and (a and c), whichever argument comes first.
pub held_is_absorbed : (p : ℕ) (records : List Record) → Orderly p records → (kind a b : ℕ) → eqb kind kind_not ≡ false → constant_true < a
    → b < formula p (length records) → holds a (named p b records) ≡ true
    → let o = old (absorbed kind a b (named p b records)) in (make p kind a b records ≡ o) × (make p kind b a records ≡ o)
held_is_absorbed = absorbs

-- The newest record first, over records in order: one anywhere that is the same as x is the first such, so the order of searching changes nothing; and
-- none is the same as x whose reference is at or below x's larger argument, so a search from the newest on may stop there.
module _ (p : ℕ) (records : List Record) (orderly : Orderly p records) (x : Record) (k : ℕ) (there : k < length records) where
  pub newest_is_first : same (get_or records k none) x ≡ true → k ≡ index_of records x
  newest_is_first = found_at records (distinct p records orderly) x k there

  pub none_up_to_argument : formula p k ≤ larger x → same (get_or records k none) x ≡ false
  none_up_to_argument = none_before p records orderly x k there

-- Refusal 8, joins plus work above 10,000, cannot arise: of every file without a fault of 1 to 7, joins are at most 798 and the work is at most 9,200,
-- together at most 9,998, and its result never needs more than 63,548 bytes. Both bounds are those of any limits, at 400 switches and 24 vertices.
module _ (s : List ℕ) (read : network_fault edition s ≡ fine) where
  pub joins_within : joins_of (network_of s).switches ≤ 798
  joins_within = (operations_most s read).0

  pub work_within : work_in (network_of s) ≤ 9200
  work_within = (operations_most s read).1

  pub operations_within : joins_of (network_of s).switches + work_in (network_of s) ≤ 9998
  operations_within = omega (arith, joins_within, work_within)

  pub room_within : room_for (network_of s) ≤ 63548
  room_within = room_most s read

-- No reply has the number 8.
pub eight_unused : (r : Result ℕ Fault) (place : ℕ) → reply_of r ≡ refused 8 place → ⊥
eight_unused = verdicts.eight_unused

-- A call of `direct` is answered by the path rule, a byte for each vertex, or refused in the same way, and never both (demands 1 and 2).
pub direct_or_refused : (s setting before after : List ℕ) (r : Result ℕ Fault) → direct.Promise s setting before after r → let net = network_of s in
    AnswersOrRefuses (direct_fault edition s setting (length before)) r (length net.starts) (Answered net setting before after) before after
unfolding direct_answer
direct_or_refused s setting before after r call =
    answer_or_refusal (direct_fault edition s setting (length before)) r _ _ setting before after call.reply call.bytes

-- The reply and every lent byte of a call are determined by what it was given (demand 1): two outcomes that are allowed coincide.
pub analysed_one_way : (s before x y : List ℕ) (r q : Result ℕ Fault) → analyse.Promise s before x r → analyse.Promise s before y q → (r ≡ q) × (x ≡ y)
analysed_one_way = analysed.unique

pub direct_one_way : (s setting before x y : List ℕ) (r q : Result ℕ Fault)
    → direct.Promise s setting before x r → direct.Promise s setting before y q → (r ≡ q) × (x ≡ y)
direct_one_way = answered.unique
