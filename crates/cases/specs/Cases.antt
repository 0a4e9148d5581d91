-- K1 to K9, F1 to F4, example L, a triangle and absorption, as one table under a single claim. Files and results are literal bytes.
use Rattle.std.specs.Prelude.{◌≡◌, refl, Bool, true, false, ◌&&◌, ℕ, eqb, replicate}
use Rattle.std.proofs.Common.{ap₂, eqb-true}
use Rattle.std.proofs.lemmas.Bool.{false≢true}
use mathlib.Core.List.{List, [], ◌∷◌, ◌++◌, map, flat_map, Memᴰ}
use Rattle.analysis.specs.Analysis.{analysis}
use Rattle.elimination.specs.Plan.{plan, work_of}
use Rattle.form.specs.Numbers.{bit_of}
use Rattle.form.specs.Refusals.{Answer, refused, accepted}
use Rattle.laws.specs.Tests.{both_true}
use Rattle.links.specs.Lists.{up_to, vertices}
use Rattle.links.specs.Links.{Graph, Step, order, steps}
use Rattle.links.specs.Switches.{links_of, joins_of}
use Rattle.network.specs.Network.{edition}
use Rattle.list.specs.Listing.{listing}
use Rattle.network.specs.declared.Switch.{Switch}
use Rattle.sheet.specs.Asks.{work}
use Rattle.stored.specs.Stored.{stored_of}
use Rattle.stored.specs.Truths.{truth_in}
use Rattle.text.specs.Texts.{ascii}
use Rattle.analysis.specs.Wiring as wiring
use Rattle.analysis.specs.Result as result
use Rattle.analysis.specs.Analysis as whole
use Rattle.elimination.specs.Plan as plans
use Rattle.form.specs.Numbers as numbers
use Rattle.formula.specs.Givens as givens
use Rattle.formula.specs.Make as making
use Rattle.formula.specs.Worth as worths
use Rattle.lines.specs.Lines as lines
use Rattle.links.specs.Switches as switches
use Rattle.list.specs.Listing as listings
use Rattle.network.specs.Faults as faults
use Rattle.network.specs.Network as networks
use Rattle.plan.specs.Measure as measures
use Rattle.sheet.specs.Asks as asks
use Rattle.sheet.specs.Perform as sheets
use Rattle.stored.specs.Stored as storing
use Rattle.text.specs.Texts as texts

-- A switch with both labels 0, which links its ends all the same.
abbrev pub bare : ℕ → ℕ → Switch
bare u v = record { first = u; second = v; there = 0; back = 0 }

-- All of n vertices linked.
abbrev pub all_linked : Graph
all_linked u v = true

-- Four in a ring.
abbrev pub ring : List Switch
ring = bare 0 1 ∷ bare 1 2 ∷ bare 2 3 ∷ bare 3 0 ∷ []

-- A star, centre 0, leaves 1 to 5.
abbrev pub star : List Switch
star = map (bare 0) (up_to 5 1)

-- Two switches between 0 and 1.
abbrev pub double : List Switch
double = bare 0 1 ∷ bare 0 1 ∷ []

-- The degrees of an elimination.
abbrev pub degrees : ℕ → Graph → List ℕ
degrees n g = map (λ (s : Step). s.degree) (steps g (vertices n) (order n g))

-- A refusal's number and place, or the bytes of a result.
abbrev pub said : Answer (List ℕ) → List ℕ
said (refused number place) = number ∷ place ∷ []
said (accepted bytes) = bytes

-- The truths of n vertices under a setting, read back from the bytes of a result.
abbrev pub truths_in : List ℕ → ℕ → List ℕ → List ℕ
truths_in result n setting = map (λ v. bit_of (truth_in (stored_of result) setting v)) (vertices n)

-- Example L, section by section: coils 7 and 9; no given formulas; starts 1, 0, 0; switches (0,1,2,2) and (1,2,3,3).
abbrev pub file_l : List ℕ
file_l =
    2 ∷ 0 ∷ 7 ∷ 0 ∷ 9 ∷ 0
    ∷ 0 ∷ 0
    ∷ 3 ∷ 0 ∷ 1 ∷ 0 ∷ 0 ∷ 0 ∷ 0 ∷ 0
    ∷ 2 ∷ 0 ∷ 0 ∷ 0 ∷ 1 ∷ 0 ∷ 2 ∷ 0 ∷ 2 ∷ 0 ∷ 1 ∷ 0 ∷ 2 ∷ 0 ∷ 3 ∷ 0 ∷ 3 ∷ 0
    ∷ []

-- Its result: coils; and 2 3; formulas 1, 2, 4; pivots 0, 1, 2 of degree 1, 1, 0; given formulas 0, joins 0, work 8.
abbrev pub result_l : List ℕ
result_l =
    2 ∷ 0 ∷ 7 ∷ 0 ∷ 9 ∷ 0
    ∷ 1 ∷ 0 ∷ 1 ∷ 0 ∷ 2 ∷ 0 ∷ 3 ∷ 0
    ∷ 3 ∷ 0 ∷ 1 ∷ 0 ∷ 2 ∷ 0 ∷ 4 ∷ 0
    ∷ 3 ∷ 0 ∷ 0 ∷ 0 ∷ 1 ∷ 0 ∷ 1 ∷ 0 ∷ 1 ∷ 0 ∷ 2 ∷ 0 ∷ 0 ∷ 0
    ∷ 3 ∷ 0 ∷ 0 ∷ 0 ∷ 0 ∷ 0 ∷ 8 ∷ 0
    ∷ []

-- Example T, a triangle: coils 7, 300 and 1000; given formula not 3; starts 1, 0, 0; switches (0,1,2,0), (1,2,4,2), (1,0,0,3) and (0,2,0,5).
abbrev pub file_t : List ℕ
file_t =
    3 ∷ 0 ∷ 7 ∷ 0 ∷ 44 ∷ 1 ∷ 232 ∷ 3
    ∷ 1 ∷ 0 ∷ 3 ∷ 0 ∷ 3 ∷ 0 ∷ 0 ∷ 0
    ∷ 3 ∷ 0 ∷ 1 ∷ 0 ∷ 0 ∷ 0 ∷ 0 ∷ 0
    ∷ 4 ∷ 0 ∷ 0 ∷ 0 ∷ 1 ∷ 0 ∷ 2 ∷ 0 ∷ 0 ∷ 0 ∷ 1 ∷ 0 ∷ 2 ∷ 0 ∷ 4 ∷ 0 ∷ 2 ∷ 0 ∷ 1 ∷ 0 ∷ 0 ∷ 0 ∷ 0 ∷ 0 ∷ 3 ∷ 0 ∷ 0 ∷ 0 ∷ 2 ∷ 0 ∷ 0 ∷ 0 ∷ 5 ∷ 0
    ∷ []

-- Its result, worked out by hand. The given formula becomes 5. The third switch joins the first: label(1,0) stays 0, label(0,1) becomes 6, or 2 3.
-- Pivot 0 has the neighbours 1 and 2. start(1) is 6; over the pivot leads 7, and 5 6, from 2 to 1, so that label(2,1) becomes 8, or 2 7; nothing
-- leads to 2. Pivot 1 has the neighbour 2: start(2) is 9, and 4 6. Vertex 2 is answered with 9; vertex 1 with 6 or (9 and 8), which are 10, and 8 9,
-- and 11, or 6 10; vertex 0 with 1, for which 12, and 5 9, is asked. Work is 12 and 4.
abbrev pub result_t : List ℕ
result_t =
    3 ∷ 0 ∷ 7 ∷ 0 ∷ 44 ∷ 1 ∷ 232 ∷ 3
    ∷ 8 ∷ 0 ∷ 3 ∷ 0 ∷ 3 ∷ 0 ∷ 0 ∷ 0 ∷ 2 ∷ 0 ∷ 2 ∷ 0 ∷ 3 ∷ 0 ∷ 1 ∷ 0 ∷ 5 ∷ 0 ∷ 6 ∷ 0 ∷ 2 ∷ 0 ∷ 2 ∷ 0 ∷ 7 ∷ 0 ∷ 1 ∷ 0 ∷ 4 ∷ 0 ∷ 6 ∷ 0 ∷ 1 ∷ 0 ∷ 8 ∷ 0 ∷ 9 ∷ 0 ∷ 2 ∷ 0 ∷ 6 ∷ 0 ∷ 10 ∷ 0 ∷ 1 ∷ 0 ∷ 5 ∷ 0 ∷ 9 ∷ 0
    ∷ 3 ∷ 0 ∷ 1 ∷ 0 ∷ 11 ∷ 0 ∷ 9 ∷ 0
    ∷ 3 ∷ 0 ∷ 0 ∷ 0 ∷ 2 ∷ 0 ∷ 1 ∷ 0 ∷ 1 ∷ 0 ∷ 2 ∷ 0 ∷ 0 ∷ 0
    ∷ 3 ∷ 0 ∷ 1 ∷ 0 ∷ 2 ∷ 0 ∷ 16 ∷ 0
    ∷ []

-- Example A, absorption: coils 7 and 9; twelve given formulas, each the start of a vertex; no switches. They are and 2 3, or 2 3; or 2 4, or 4 3, and
-- 5 2, and 3 5; or 2 5, and 4 3; not 4, and 2 12; or 3 13, or 14 2.
abbrev pub file_a : List ℕ
file_a =
    2 ∷ 0 ∷ 7 ∷ 0 ∷ 9 ∷ 0
    ∷ 12 ∷ 0 ∷ 1 ∷ 0 ∷ 2 ∷ 0 ∷ 3 ∷ 0 ∷ 2 ∷ 0 ∷ 2 ∷ 0 ∷ 3 ∷ 0 ∷ 2 ∷ 0 ∷ 2 ∷ 0 ∷ 4 ∷ 0 ∷ 2 ∷ 0 ∷ 4 ∷ 0 ∷ 3 ∷ 0 ∷ 1 ∷ 0 ∷ 5 ∷ 0 ∷ 2 ∷ 0 ∷ 1 ∷ 0 ∷ 3 ∷ 0 ∷ 5 ∷ 0
    ∷ 2 ∷ 0 ∷ 2 ∷ 0 ∷ 5 ∷ 0 ∷ 1 ∷ 0 ∷ 4 ∷ 0 ∷ 3 ∷ 0 ∷ 3 ∷ 0 ∷ 4 ∷ 0 ∷ 0 ∷ 0 ∷ 1 ∷ 0 ∷ 2 ∷ 0 ∷ 12 ∷ 0 ∷ 2 ∷ 0 ∷ 3 ∷ 0 ∷ 13 ∷ 0 ∷ 2 ∷ 0 ∷ 14 ∷ 0 ∷ 2 ∷ 0
    ∷ 12 ∷ 0 ∷ 4 ∷ 0 ∷ 5 ∷ 0 ∷ 6 ∷ 0 ∷ 7 ∷ 0 ∷ 8 ∷ 0 ∷ 9 ∷ 0 ∷ 10 ∷ 0 ∷ 11 ∷ 0 ∷ 12 ∷ 0 ∷ 13 ∷ 0 ∷ 14 ∷ 0 ∷ 15 ∷ 0
    ∷ 0 ∷ 0
    ∷ []

-- Its result, worked out by hand. The first two are 4 and 5. 4 holds 2 and 3 as its first and second argument, and so does 5: the four after them are
-- 2, 3, 2 and 3, and the next two 5 and 4 themselves. not 4 is 6; and 2 6 is 7, for a not record is not looked at. or 3 7 is 8, and or 2 8 is 9, for
-- 8 holds 3 and 7, and 2 stands one level deeper.
abbrev pub result_a : List ℕ
result_a =
    2 ∷ 0 ∷ 7 ∷ 0 ∷ 9 ∷ 0
    ∷ 6 ∷ 0 ∷ 1 ∷ 0 ∷ 2 ∷ 0 ∷ 3 ∷ 0 ∷ 2 ∷ 0 ∷ 2 ∷ 0 ∷ 3 ∷ 0 ∷ 3 ∷ 0 ∷ 4 ∷ 0 ∷ 0 ∷ 0 ∷ 1 ∷ 0 ∷ 2 ∷ 0 ∷ 6 ∷ 0 ∷ 2 ∷ 0 ∷ 3 ∷ 0 ∷ 7 ∷ 0 ∷ 2 ∷ 0 ∷ 2 ∷ 0 ∷ 8 ∷ 0
    ∷ 12 ∷ 0 ∷ 4 ∷ 0 ∷ 5 ∷ 0 ∷ 2 ∷ 0 ∷ 3 ∷ 0 ∷ 2 ∷ 0 ∷ 3 ∷ 0 ∷ 5 ∷ 0 ∷ 4 ∷ 0 ∷ 6 ∷ 0 ∷ 7 ∷ 0 ∷ 8 ∷ 0 ∷ 9 ∷ 0
    ∷ 12 ∷ 0 ∷ 0 ∷ 0 ∷ 0 ∷ 0 ∷ 1 ∷ 0 ∷ 0 ∷ 0 ∷ 2 ∷ 0 ∷ 0 ∷ 0 ∷ 3 ∷ 0 ∷ 0 ∷ 0 ∷ 4 ∷ 0 ∷ 0 ∷ 0 ∷ 5 ∷ 0 ∷ 0 ∷ 0 ∷ 6 ∷ 0 ∷ 0 ∷ 0 ∷ 7 ∷ 0 ∷ 0 ∷ 0 ∷ 8 ∷ 0 ∷ 0 ∷ 0 ∷ 9 ∷ 0 ∷ 0 ∷ 0 ∷ 10 ∷ 0 ∷ 0 ∷ 0 ∷ 11 ∷ 0 ∷ 0 ∷ 0
    ∷ 3 ∷ 0 ∷ 12 ∷ 0 ∷ 0 ∷ 0 ∷ 0 ∷ 0
    ∷ []

-- The listing of L, line by line.
abbrev pub listing_l : List ℕ
listing_l =
    ascii "vertices 3 switches 2 joins 0 work 8 nodes 1\n"
    ++ (ascii "pivot 0 degree 1\npivot 1 degree 1\npivot 2 degree 0\n"
    ++ (ascii "f 4 and 2 3\n" ++ ascii "vertex 0 formula 1\nvertex 1 formula 2\nvertex 2 formula 4\n"))

-- What the definitions give, beside what the outline says.
abbrev pub table : List (List ℕ × List ℕ)
table =
    -- K1 no vertices: 0
    (work_of 0 all_linked ∷ [], 0 ∷ [])
    -- K2 one vertex: 0
    ∷ (work_of 1 all_linked ∷ [], 0 ∷ [])
    -- K3 triangle: 16
    ∷ (work_of 3 all_linked ∷ [], 16 ∷ [])
    -- K4 four in a ring: 26
    ∷ (work_of 4 (links_of ring) ∷ [], 26 ∷ [])
    -- K5 all four linked: 40, first degree 3
    ∷ (work_of 4 all_linked ∷ degrees 4 all_linked, 40 ∷ 3 ∷ 2 ∷ 1 ∷ 0 ∷ [])
    -- K6 star, centre 0, leaves 1 to 5: 20
    ∷ (work_of 6 (links_of star) ∷ [], 20 ∷ [])
    -- K7 the same with the centre forced first: 120
    ∷ (work (plan (links_of star) (vertices 6) (vertices 6)) ∷ [], 120 ∷ [])
    -- K8 24 vertices all linked: 9,200
    ∷ (work_of 24 all_linked ∷ [], 9200 ∷ [])
    -- K9 two switches between 0 and 1: joins 2, work 4
    ∷ (joins_of double ∷ work_of 2 (links_of double) ∷ [], 2 ∷ 4 ∷ [])
    -- F1 empty input: 1 at 0
    ∷ (said (analysis edition [] 65536), 1 ∷ 0 ∷ [])
    -- F2 eight zero bytes: accepted, 16-byte room; one byte less gives 9
    ∷ (said (analysis edition (replicate 8 0) 16), replicate 8 0 ++ (3 ∷ replicate 7 0))
    ∷ (said (analysis edition (replicate 8 0) 15), 9 ∷ 0 ∷ [])
    -- F3 nine zero bytes: 7 at 8
    ∷ (said (analysis edition (replicate 9 0) 65536), 7 ∷ 8 ∷ [])
    -- F4 first count 201: 2 at 0
    ∷ (said (analysis edition (201 ∷ 0 ∷ []) 65536), 2 ∷ 0 ∷ [])
    -- L, T and A, byte by byte; for T just the room that it needs, 16 + 6 + 6 · 19 + 18, and one byte less
    ∷ (said (analysis edition file_l 65536), result_l)
    ∷ (said (analysis edition file_t 154), result_t)
    ∷ (said (analysis edition file_t 153), 9 ∷ 0 ∷ [])
    ∷ (said (analysis edition file_a 65536), result_a)
    -- L: vertex 1 is joined to the source where coil 7 is on, vertex 2 where both are
    ∷ (truths_in result_l 3 (0 ∷ 0 ∷ []), 1 ∷ 0 ∷ 0 ∷ [])
    ∷ (truths_in result_l 3 (1 ∷ 0 ∷ []), 1 ∷ 1 ∷ 0 ∷ [])
    ∷ (truths_in result_l 3 (0 ∷ 1 ∷ []), 1 ∷ 0 ∷ 0 ∷ [])
    ∷ (truths_in result_l 3 (1 ∷ 1 ∷ []), 1 ∷ 1 ∷ 1 ∷ [])
    -- T: vertex 1 where coil 7 or coil 300 is, vertex 2 where coil 1000 is besides
    ∷ (truths_in result_t 3 (0 ∷ 0 ∷ 1 ∷ []), 1 ∷ 0 ∷ 0 ∷ [])
    ∷ (truths_in result_t 3 (0 ∷ 1 ∷ 0 ∷ []), 1 ∷ 1 ∷ 0 ∷ [])
    ∷ (truths_in result_t 3 (1 ∷ 0 ∷ 1 ∷ []), 1 ∷ 1 ∷ 1 ∷ [])
    -- the listing of L, and that of a refusal
    ∷ (listing file_l, listing_l)
    ∷ (listing (replicate 9 0), ascii "refused 7 at 8\n")
    ∷ []

-- Two lists of numbers are the same; the two sides of every row are.
abbrev same : List ℕ → List ℕ → Bool
same [] [] = true
same [] (y ∷ ys) = false
same (x ∷ xs) [] = false
same (x ∷ xs) (y ∷ ys) = eqb x y && same xs ys

abbrev holds : List (List ℕ × List ℕ) → Bool
holds [] = true
holds (row ∷ rows) = same row.0 row.1 && holds rows

-- What these tests say.
same_lists : (xs ys : List ℕ) → same xs ys ≡ true → xs ≡ ys
same_lists [] [] e = refl
same_lists [] (y ∷ ys) e = absurd (false≢true e)
same_lists (x ∷ xs) [] e = absurd (false≢true e)
same_lists (x ∷ xs) (y ∷ ys) e =
    let h = both_true (eqb x y) (same xs ys) e in
    ap₂ ◌∷◌ (eqb-true x y h.0) (same_lists xs ys h.1)

row_holds : (rows : List (List ℕ × List ℕ)) → holds rows ≡ true → {row : List ℕ × List ℕ} → Memᴰ row rows → row.0 ≡ row.1
row_holds [] e {row = row} m = elim m [ ]
row_holds (r ∷ rows) e (Memᴰ.head q) = rw q (same_lists r.0 r.1 (both_true (same r.0 r.1) (holds rows) e).0)
row_holds (r ∷ rows) e (Memᴰ.tail m) = row_holds rows (both_true (same r.0 r.1) (holds rows) e).1 m

-- The claim: in every row of the table the definitions give what the outline says.
pub table_holds : {row : List ℕ × List ℕ} → Memᴰ row table → row.0 ≡ row.1
unfolding
    flat_map
    numbers.word_at numbers.bytes_of
    networks.entries_of networks.network_of
    faults.cut_fault faults.count_fault faults.coil_fault faults.kind_fault faults.reference_fault faults.end_fault faults.trailing_fault faults.second_below faults.given_fault faults.vertex_fault faults.switch_fault faults.entries_fault faults.section_fault faults.network_fault
    making.index_of making.named making.enter making.negate making.relate making.combine making.make
    givens.translate givens.pass_one givens.pass
    switches.link switches.joins_at switches.links_from switches.joins_from switches.links_of switches.joins_of
    asks.same_cell asks.work
    sheets.set_cell sheets.put sheets.and_then sheets.product sheets.asked sheets.perform
    plans.forward plans.backward plans.plan
    wiring.passed wiring.translated wiring.starting wiring.set_or_join wiring.labelled wiring.translate_switch wiring.wire wiring.wire_all wiring.wired
    result.eliminated result.result_in result.result_numbers result.result_of
    measures.operations measures.room_for measures.room_fault whole.analysis_fault whole.analysis
    storing.stored_of worths.operate worths.evaluate worths.worth
    texts.digits_in texts.decimal texts.pair_line
    lines.counts_line lines.pivot_line lines.kind_text lines.second_text lines.record_line lines.vertex_line lines.lines lines.result_lines
    listings.refused_line listings.listing_for listings.listing
table_holds m = row_holds table refl m
