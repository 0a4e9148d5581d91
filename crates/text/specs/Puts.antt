-- Text put into a buffer.
use Rattle.std.specs.Prelude.{◌≡◌, List, ℕ, ◌+◌, length}
use Rattle.std.proofs.lemmas.List.Edits.{sets}

-- Bytes are put from a place on; all others stay. The call gives the place after them.
pub record Puts (bytes : List ℕ) (at : ℕ) (before after : List ℕ) (r : ℕ) : Type 0 where
  pub end : r ≡ at + length bytes
  pub long : length after ≡ length before
  pub put : after ≡ sets before at bytes
