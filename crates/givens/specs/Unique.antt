-- Two outcomes that the promise of `pass_givens` allows coincide: the number of records, every number of the array and every byte of the lent buffer.
use Rattle.std.specs.Prelude.{◌≡◌, List, ℕ, ltb, get_or}
use Rattle.std.proofs.Common.{sym, ap, ◌∙◌, ltb-true, ltb-false, ext_get_or, get_or-take}
use Rattle.laws.specs.Tests.{by_test}
use Rattle.network.specs.declared.Sections.{Sections}
use Rattle.records.specs.Unique.{grown_unique}
use Rattle.givens.specs.Passed.{PassedIn}

module _ (file : List ℕ) (parts : Sections) (base : ℕ) (entry references references' x y : List ℕ) (r q : ℕ)
    (c : PassedIn file parts base entry references x r) (d : PassedIn file parts base entry references' y q) where
  -- A number for each given formula, and then zeros.
  same_references : references ≡ references'
  same_references =
      let n = parts.givens in
      ext_get_or 0 references references' (c.long ∙ sym d.long) (λ j h. by_test (ltb j n)
      (λ t. let l = ltb-true j n t in
      sym (get_or-take n references j 0 l) ∙ ap (λ (xs : List ℕ). get_or xs j 0) (sym c.became ∙ d.became) ∙ get_or-take n references' j 0 l)
      (λ t. let l = ltb-false j n t in c.clear j l ∙ sym (d.clear j l)))

  pub unique : (r ≡ q) × (references ≡ references') × (x ≡ y)
  unique =
      let same = grown_unique parts.variables base parts.givens entry 0 x y r q c.grown d.grown (c.records ∙ sym d.records) in
      (same.0, same_references, same.1)
