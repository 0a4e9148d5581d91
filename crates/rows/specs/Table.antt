-- Links as the code holds them: a row for each vertex.
use Rattle.std.specs.Prelude.{◌≡◌, Bool, not, ◌&&◌, List, ℕ, ◌^◌, ◌<◌, eqb, get_or, replicate}
use Rattle.std.proofs.Math.Path.{refl, sym, ap, fun_ext}
use Rattle.std.proofs.Common.{◌∙◌, arith}
use Rattle.std.proofs.Math.Bool.{true, false}
use Rattle.std.specs.Int.Bits.{bit_and, and_le_r}
use Rattle.std.specs.Int.Count.{ones}
use Rattle.std.proofs.Math.ListN.{length}
use Rattle.laws.specs.Places.{at_zeros}
use Rattle.links.specs.Lists.{vertices}
use Rattle.links.specs.Links.{Graph, beside, neighbours, degree}
use Rattle.links.specs.ListLaws.{keep_keep, keep_same}
use Rattle.links.specs.Switches.{no_links}
use Rattle.network.specs.Network.{side}
use Rattle.rows.specs.Row.{has, vertices_in, excluding, has_and, has_none, has_excluding, excluding_most}
use Rattle.rows.specs.Counts.{ones_are}

-- u and v are linked where row u has v.
unfoldable pub links_in : List ℕ → Graph
links_in links u v = has (get_or links u 0) v

-- The row of p's neighbours among those that a row has.
unfoldable pub near_row : List ℕ → ℕ → ℕ → ℕ
near_row links rest p = bit_and (get_or links p 0) (excluding rest p)

pub near_is : (links : List ℕ) (rest p others : ℕ) → others ≡ excluding rest p → bit_and (get_or links p 0) others ≡ near_row links rest p
unfolding near_row
near_is links rest p others e = rw e

-- How many they are.
unfoldable pub degree_in : List ℕ → ℕ → ℕ → ℕ
degree_in links rest = λ p. ones (near_row links rest p)

-- A table of zeros links nothing.
pub none_linked : links_in (replicate side 0) ≡ no_links
unfolding links_in
none_linked = fun_ext (λ u. fun_ext (λ v. rw (at_zeros side u) (has_none v)))

module _ (links : List ℕ) (n rest : ℕ) where
  -- The neighbours are those of the definition,
  pub near_are : (p : ℕ) → vertices_in n (near_row links rest p) ≡ neighbours (links_in links) (vertices_in n rest) p
  unfolding vertices_in near_row links_in
  near_are p =
      keep_same _ _ (vertices n) (λ v m. has_and (get_or links p 0) (excluding rest p) v ∙ rw (has_excluding rest p v)
      (turned (has (get_or links p 0) v) (has rest v) (not (eqb p v))))
      ∙ sym (keep_keep (beside (links_in links) p) (has rest) (vertices n))
    where
      turned : (a b c : Bool) → a && (b && c) ≡ b && (c && a)
      turned true true true = refl
      turned true true false = refl
      turned true false c = refl
      turned false true true = refl
      turned false true false = refl
      turned false false c = refl

  -- and so is their number, where the row has none from n on.
  pub near_few : rest < 2 ^ n → (p : ℕ) → near_row links rest p < 2 ^ n
  unfolding near_row
  near_few h p = omega (arith, and_le_r (get_or links p 0) (excluding rest p), excluding_most rest p)

  pub degree_is : rest < 2 ^ n → degree_in links rest ≡ degree (links_in links) (vertices_in n rest)
  unfolding degree_in
  degree_is h = fun_ext (λ p. ones_are n (near_row links rest p) (near_few h p) ∙ ap length (near_are p))
