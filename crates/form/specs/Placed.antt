-- How far the numbers and places of refusals reach.
use Rattle.std.specs.Prelude.{◌≡◌, Bool, ℕ, ◌≤◌}
use Rattle.std.proofs.Math.Path.{refl}
use Rattle.std.proofs.Math.Bool.{true, false}
use Rattle.form.specs.Refusals.{Verdict, fine, fault, fault_if, first_of}

-- A refusal with a number from 1 to 28, at a place up to the last.
pub record Placed (last number place : ℕ) : Type 0 where
  pub low : 1 ≤ number
  pub high : number ≤ 28
  pub inside : place ≤ last

-- A verdict's refusal is such a one, where it has one.
unfoldable pub PlacedIn : ℕ → Verdict → Type 0
PlacedIn last fine = Unit
PlacedIn last (fault number place) = Placed last number place

module _ (last : ℕ) where
  -- Nothing is wrong.
  pub placed_fine : PlacedIn last fine
  unfolding PlacedIn
  placed_fine = tt

  -- The first fault is placed where both are,
  pub placed_first : (a b : Verdict) → PlacedIn last a → (a ≡ fine → PlacedIn last b) → PlacedIn last (first_of a b)
  unfolding PlacedIn
  placed_first fine b h later = later refl
  placed_first (fault number place) b h later = h

  -- and a test's fault where its number and its place are.
  pub placed_if : (t : Bool) (number at : ℕ) → (1 ≤ number) × (number ≤ 28) × (at ≤ last) → PlacedIn last (fault_if t number at)
  unfolding PlacedIn
  placed_if true number at h = record { low = h.0; high = h.1; inside = h.2 }
  placed_if false number at h = tt

  -- A verdict that is a fault is placed.
  pub placed_fault : (v : Verdict) (number place : ℕ) → PlacedIn last v → v ≡ fault number place → Placed last number place
  unfolding PlacedIn
  placed_fault v number place h e = rw e at h
