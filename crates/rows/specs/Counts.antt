-- The size of a row: as many as the vertices that it has.
use Rattle.std.specs.Prelude.{◌≡◌, refl, ℕ, zero, suc, ◌/◌, ◌%◌, ◌^◌, ◌<◌, length}
use Rattle.std.proofs.Common.{sym, ap, ◌∙◌, arith, pow-suc}
use Rattle.std.proofs.Math.Nat.{div-div-eq-div-mul}
use Rattle.std.specs.Int.Count.{ones, ones_step}
use Rattle.laws.specs.Tests.{by_same}
use Rattle.links.specs.Lists.{keep, up_to}
use Rattle.rows.specs.Row.{has, vertices_in}

zero_ones : ones 0 ≡ 0
unfolding ones
zero_ones = refl

-- From vertex k on.
ones_from : (row n k : ℕ) → row / 2 ^ k < 2 ^ n → ones (row / 2 ^ k) ≡ length (keep (has row) (up_to n k))
unfolding has
ones_from row zero k h = let z : row / 2 ^ k ≡ 0 = omega arith in rw z zero_ones
ones_from row (suc n) k h =
    let half : row / 2 ^ k / 2 ≡ row / 2 ^ suc k = div-div-eq-div-mul row (2 ^ k) 2 ∙ ap (λ (d : ℕ). row / d) (sym (pow-suc 2 k)) in
    let less : row / 2 ^ k / 2 < 2 ^ n = (let p = pow-suc 2 n in omega arith) in
    let rest = ones_from row n (suc k) (rw half at less) in
    by_same (row / 2 ^ k % 2) 1
    (λ e. ones_step (row / 2 ^ k) ∙ rw (half, rest, e) (omega arith))
    (λ d. let z : row / 2 ^ k % 2 ≡ 0 = omega arith in ones_step (row / 2 ^ k) ∙ rw (half, rest, z) (omega arith))

-- Of a row that has none from vertex n on.
pub ones_are : (n row : ℕ) → row < 2 ^ n → ones row ≡ length (vertices_in n row)
unfolding vertices_in
ones_are n row h = let e : row / 2 ^ 0 ≡ row = omega arith in rw e at (ones_from row n 0 (rw e h))
