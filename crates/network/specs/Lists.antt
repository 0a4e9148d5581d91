-- The lists of an accepted file's network: how long they are, and what stands at an index.
use Rattle.std.specs.Prelude.{◌≡◌, length, get_or}
use Rattle.std.proofs.Math.Path.{refl, ap}
use mathlib.Core.List.{List, [], ◌∷◌, ◌++◌}
use Prim.Native.Nat.{ℕ, zero, suc, ◌+◌, ◌*◌, ◌<◌}
use Rattle.std.proofs.Common.{mul-zero, add-zero, arith}
use Rattle.std.proofs.Math.Nat.{mul-suc}
use Rattle.form.specs.Numbers.{word_at}
use Rattle.form.specs.declared.Record.{Record}
use Rattle.network.specs.declared.Sections.{Sections}
use Rattle.network.specs.declared.Switch.{Switch}
use Rattle.network.specs.Network.{variable_size, given_size, vertex_size, switch_size, givens_at, vertices_at, switches_at, given_at, switch_at, entries_of, network_of}
use Rattle.network.specs.Layout.{Layout, coil_place, given_place, start_place, switch_place}

-- Any section.
module _ {A : Type 0} (entry : ℕ → A) (size : ℕ) where
  pub entries_length : (at n : ℕ) → length (entries_of entry size at n) ≡ n
  unfolding entries_of
  entries_length at zero = refl
  entries_length at (suc n) = ap suc (entries_length (at + size) n)

  pub entries_at : (at n k : ℕ) (d : A) → k < n → get_or (entries_of entry size at n) k d ≡ entry (at + size * k)
  unfolding entries_of
  entries_at at zero k d h = absurd (omega arith)
  entries_at at (suc n) zero d h = simp (mul-zero, add-zero)
  entries_at at (suc n) (suc k) d h =
      let p : at + size * suc k ≡ (at + size) + size * k = rw mul-suc (omega arith) in
      rw p (entries_at (at + size) n k d (omega arith))

  -- One entry more, at the end.
  pub entries_more : (at n : ℕ) → entries_of entry size at (suc n) ≡ entries_of entry size at n ++ (entry (at + size * n) ∷ [])
  unfolding entries_of
  entries_more at zero = simp (mul-zero, add-zero)
  entries_more at (suc n) =
      let p : at + size * suc n ≡ (at + size) + size * n = rw mul-suc (omega arith) in
      ap (λ (t : List A). entry at ∷ t) (rw p (entries_more (at + size) n))

  -- Entries that agree make one list.
  pub entries_same : (other : ℕ → A) (at n : ℕ) → ((k : ℕ) → k < n → entry (at + size * k) ≡ other (at + size * k)) → entries_of entry size at n ≡ entries_of other size at n
  unfolding entries_of
  entries_same other at zero e = refl
  entries_same other at (suc n) e =
      let p : (k : ℕ) → at + size * suc k ≡ (at + size) + size * k = λ k. rw mul-suc (omega arith) in
      let first : entry at ≡ other at = simp (mul-zero, add-zero) at (e 0 (omega arith)) in
      let rest = entries_same other (at + size) n (λ k h. rw p at (e (suc k) (omega arith))) in
      cc

module _ {s : List ℕ} {parts : Sections} (r : Layout s parts) where
  -- How many there are.
  pub variables_length : length (network_of s).variables ≡ parts.variables
  unfolding network_of
  variables_length = rw r.sections (entries_length (word_at s) variable_size _ _)

  pub givens_length : length (network_of s).givens ≡ parts.givens
  unfolding network_of
  givens_length = rw r.sections (entries_length (given_at s) given_size _ _)

  pub starts_length : length (network_of s).starts ≡ parts.vertices
  unfolding network_of
  starts_length = rw r.sections (entries_length (word_at s) vertex_size _ _)

  pub switches_length : length (network_of s).switches ≡ parts.switches
  unfolding network_of
  switches_length = rw r.sections (entries_length (switch_at s) switch_size _ _)

  -- What stands at an index.
  module _ (k : ℕ) where
    pub variable_at : k < parts.variables → get_or (network_of s).variables k 0 ≡ word_at s (coil_place k)
    unfolding network_of
    variable_at h = entries_at (word_at s) variable_size 2 (word_at s 0) k 0 (rw r.sections at h)

    pub given_at_lem : (d : Record) → k < parts.givens → get_or (network_of s).givens k d ≡ given_at s (given_place parts k)
    unfolding network_of
    given_at_lem d h = rw r.sections (entries_at (given_at s) given_size (givens_at s + 2) _ k d (rw r.sections at h))

    pub start_at : k < parts.vertices → get_or (network_of s).starts k 0 ≡ word_at s (start_place parts k)
    unfolding network_of
    start_at h = rw r.sections (entries_at (word_at s) vertex_size (vertices_at s + 2) _ k 0 (rw r.sections at h))

    pub switch_at_lem : (d : Switch) → k < parts.switches → get_or (network_of s).switches k d ≡ switch_at s (switch_place parts k)
    unfolding network_of
    switch_at_lem d h = rw r.sections (entries_at (switch_at s) switch_size (switches_at s + 2) _ k d (rw r.sections at h))
