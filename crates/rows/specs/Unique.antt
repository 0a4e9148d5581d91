-- Two outcomes that a promise about a table of links allows coincide: every row of the table and, of `connect`, the joins.
use Rattle.std.specs.Prelude.{◌≡◌, List, ℕ, length, get_or}
use Rattle.std.proofs.Common.{sym, ap, ◌∙◌, le_antisymm, ext_get_or}
use Rattle.links.specs.Links.{Graph}
use Rattle.network.specs.declared.Switch.{Switch}
use Rattle.rows.specs.Row.{has, subset_most}
use Rattle.rows.specs.Table.{links_in}
use Rattle.rows.specs.Connect.{Connects}

-- The vertices of a row determine it,
row_unique : (a b : ℕ) → ((v : ℕ) → has a v ≡ has b v) → a ≡ b
row_unique a b e = le_antisymm (subset_most a b (λ v t. sym (e v) ∙ t)) (subset_most b a (λ v t. e v ∙ t))

-- and the links a table.
pub table_unique : (x y : List ℕ) → links_in x ≡ links_in y → length x ≡ length y → x ≡ y
unfolding links_in
table_unique x y e l = ext_get_or 0 x y l (λ u h. row_unique (get_or x u 0) (get_or y u 0) (λ v. ap (λ (g : Graph). g u v) e))

pub connect_unique : (w : Switch) (entry x y : List ℕ) (r q : ℕ) → Connects w entry x r → Connects w entry y q → (r ≡ q) × (x ≡ y)
connect_unique w entry x y r q c d = (c.joins ∙ sym d.joins, c.rows ∙ sym d.rows)
