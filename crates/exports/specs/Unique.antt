-- Two outcomes that a door's promise allows coincide: the number, and every byte of the lent buffer.
use Rattle.std.specs.Prelude.{◌≡◌, List, ℕ, Result}
use Rattle.std.proofs.Common.{sym, ap, ◌∙◌}
use Rattle.form.specs.Refusals.{reply_of}
use Rattle.form.specs.declared.Fault.{Fault}
use Rattle.analyse.specs.Promise as analyse
use Rattle.analyse.specs.Unique as analyse-unique
use Rattle.direct.specs.Promise as direct
use Rattle.direct.specs.Unique as direct-unique
use Rattle.exports.specs.Codes.{code_of, Through}

-- One reply has one number.
same_code : {P Q : Result ℕ Fault → Type 0} {r q : ℕ} (c : Through P r) (d : Through Q q) → c.reply ≡ d.reply → r ≡ q
same_code c d e = c.code ∙ ap (λ (x : Result ℕ Fault). code_of (reply_of x)) e ∙ sym d.code

pub analysed_unique : (s before x y : List ℕ) (r q : ℕ) → Through (analyse.Promise s before x) r → Through (analyse.Promise s before y) q
    → (r ≡ q) × (x ≡ y)
analysed_unique s before x y r q c d =
    let same = analyse-unique.unique s before x y c.reply d.reply c.kept d.kept in
    (same_code c d same.0, same.1)

pub directed_unique : (s setting before x y : List ℕ) (r q : ℕ) → Through (direct.Promise s setting before x) r
    → Through (direct.Promise s setting before y) q → (r ≡ q) × (x ≡ y)
directed_unique s setting before x y r q c d =
    let same = direct-unique.unique s setting before x y c.reply d.reply c.kept d.kept in
    (same_code c d same.0, same.1)
