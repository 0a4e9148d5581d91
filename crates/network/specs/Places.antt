-- Where a file is refused by 1 to 7, its place is inside the longest accepted file.
use Rattle.std.specs.Prelude.{not, ◌&&◌, ◌||◌, List, ltb, length}
use Prim.Native.Nat.{ℕ, zero, suc, ◌+◌, ◌-◌, ◌*◌, ◌≤◌}
use Rattle.std.proofs.Math.Nat.{mul-suc, mul-le-mul_left}
use Rattle.std.proofs.Common.{arith}
use Rattle.std.proofs.Math.Dec.{eqb, leb}
use Rattle.form.specs.Numbers.{word_at}
use Rattle.form.specs.Placed.{PlacedIn, placed_fine, placed_first, placed_if}
use Rattle.form.specs.Refusals.{Verdict, first_of}
use Rattle.network.specs.declared.Limits.{Limits}
use Rattle.network.specs.declared.Sections.{Sections}
use Rattle.network.specs.Network.{given_size, vertex_size, switch_size, end_at}
use Rattle.network.specs.Faults.{cut_fault, count_fault, coil_fault, kind_fault, reference_fault, end_fault, trailing_fault, given_fault, vertex_fault, switch_fault, entries_fault, section_fault, network_fault}
use Rattle.network.specs.Layout.{Within, Layout}
use Rattle.network.specs.Ranges.{count_fine, section_fine}

-- The longest accepted file.
abbrev pub longest : Limits → ℕ
longest limits = 8 + 2 * limits.variables + 6 * limits.givens + 2 * limits.vertices + 8 * limits.switches

module _ (last : ℕ) where
  -- The tests of a number are placed at its start,
  module _ (s : List ℕ) (at : ℕ) (h : at ≤ last) where
    cut_placed : (size : ℕ) → PlacedIn last (cut_fault size s at)
    unfolding cut_fault
    cut_placed size = placed_if last (ltb (length s) (at + size)) 1 at (omega arith)

    count_placed : (limit : ℕ) → PlacedIn last (count_fault limit s at)
    unfolding count_fault
    count_placed limit = placed_if last (ltb limit (word_at s at)) 2 at (omega arith)

    coil_placed : (k : ℕ) → PlacedIn last (coil_fault s at k)
    unfolding coil_fault
    coil_placed k = placed_if last (ltb 0 k && leb (word_at s at) (word_at s (at - 2))) 3 at (omega arith)

    kind_placed : PlacedIn last (kind_fault s at)
    unfolding kind_fault
    kind_placed = placed_if last (not (eqb (word_at s at) 1 || eqb (word_at s at) 2 || eqb (word_at s at) 3)) 4 at (omega arith)

    reference_placed : (defined : ℕ) → PlacedIn last (reference_fault defined s at)
    unfolding reference_fault
    reference_placed defined = placed_if last (leb defined (word_at s at)) 5 at (omega arith)

    end_placed : (vertices : ℕ) → PlacedIn last (end_fault vertices s at)
    unfolding end_fault
    end_placed vertices = placed_if last (leb vertices (word_at s at)) 6 at (omega arith)

    trailing_placed : PlacedIn last (trailing_fault s at)
    unfolding trailing_fault
    trailing_placed = placed_if last (ltb at (length s)) 7 at (omega arith)

  -- and those of an entry inside it.
  module _ (s : List ℕ) (at k : ℕ) where
    given_placed : (p : ℕ) → at + given_size ≤ last → PlacedIn last (given_fault p s at k)
    unfolding given_fault
    given_placed p h =
        placed_first last _ _ (kind_placed s at (omega arith))
        (λ e. placed_first last _ _ (reference_placed s (at + 2) (omega arith) _) (λ e. reference_placed s (at + 4) (omega arith) _))

    vertex_placed : (defined : ℕ) → at + vertex_size ≤ last → PlacedIn last (vertex_fault defined s at k)
    unfolding vertex_fault
    vertex_placed defined h = reference_placed s at (omega arith) defined

    switch_placed : (vertices defined : ℕ) → at + switch_size ≤ last → PlacedIn last (switch_fault vertices defined s at k)
    unfolding switch_fault
    switch_placed vertices defined h =
        placed_first last _ _ (end_placed s at (omega arith) vertices)
        (λ e. placed_first last _ _ (end_placed s (at + 2) (omega arith) vertices)
        (λ e. placed_first last _ _ (reference_placed s (at + 4) (omega arith) defined) (λ e. reference_placed s (at + 6) (omega arith) defined)))

  -- Entries and sections whose test is placed inside its entry.
  module _ (size : ℕ) (test : List ℕ → ℕ → ℕ → Verdict) (s : List ℕ)
      (tested : (at k : ℕ) → at + size ≤ last → PlacedIn last (test s at k)) where
    entries_placed : (at k n : ℕ) → at + size * n ≤ last → PlacedIn last (entries_fault size test s at k n)
    unfolding entries_fault
    entries_placed at k zero h = placed_fine last
    entries_placed at k (suc n) h =
        let i : at + size + size * n ≤ last = omega (arith, mul-suc size n) in
        placed_first last _ _ (cut_placed s at (omega arith) size)
        (λ e. placed_first last _ _ (tested at k (omega arith)) (λ e. entries_placed (at + size) (k + 1) n i))

    section_placed : (limit at : ℕ) → at + 2 + size * limit ≤ last → PlacedIn last (section_fault limit size test s at)
    unfolding section_fault
    section_placed limit at h =
        placed_first last _ _ (cut_placed s at (omega arith) 2)
        (λ e. placed_first last _ _ (count_placed s at (omega arith) limit)
        (λ e. entries_placed (at + 2) 0 (word_at s at) (omega (arith, mul-le-mul_left size (count_fine s limit at e)))))

    -- What comes after a section may go by its count.
    section_then : (limit at : ℕ) (later : Verdict) → at + 2 + size * limit ≤ last → (word_at s at ≤ limit → PlacedIn last later)
        → PlacedIn last (first_of (section_fault limit size test s at) later)
    section_then limit at later h next =
        placed_first last _ later (section_placed limit at h) (λ e. next (section_fine size test s limit at e).count)

  -- The whole file.
  pub network_placed : (limits : Limits) (s : List ℕ) → longest limits ≤ last → PlacedIn last (network_fault limits s)
  unfolding network_fault
  network_placed limits s h =
      section_then _ _ s (λ at k l. coil_placed s at (omega arith) k) _ _ _ (omega arith)
      (λ variables. section_then _ _ s (λ at k. given_placed s at k _) _ _ _ (omega arith)
      (λ givens. section_then _ _ s (λ at k. vertex_placed s at k _) _ _ _ (omega arith)
      (λ vertices. section_then _ _ s (λ at k. switch_placed s at k _ _) _ _ _ (omega arith)
      (λ switches. trailing_placed s (end_at s) (omega arith)))))

-- An accepted file is no longer than the longest.
pub longest_file : (limits : Limits) (s : List ℕ) (parts : Sections) → Layout s parts → Within limits parts → length s ≤ longest limits
longest_file limits s parts l w = omega arith
