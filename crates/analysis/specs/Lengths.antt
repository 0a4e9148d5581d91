-- How many numbers a result has.
use Rattle.std.specs.Prelude.{◌≡◌, refl, ◌++◌, ◌+◌, ◌*◌, length}
use Rattle.std.proofs.Common.{arith, length-append}
use Rattle.form.specs.References.{record_entry}
use Rattle.laws.specs.Flat.{flat_length}
use Rattle.links.specs.Lists.{vertices}
use Rattle.links.specs.Links.{order}
use Rattle.links.specs.ListLaws.{vertices_long}
use Rattle.links.specs.OrderLaws.{order_length, steps_length}
use Rattle.links.specs.Switches.{links_of}
use Rattle.network.specs.Network.{Network}
use Rattle.sheet.specs.declared.Cell.TheVariants.{Start}
use Rattle.analysis.specs.Result.{eliminated, section, single, step_entry, Stored, result_in, result_numbers}

-- Those of five sections, with their counts,
pub numbers_long : (r : Stored)
    → length (result_numbers r)
    ≡ 5 + length r.variables + 3 * length r.records + length r.answers + 2 * length r.order + length r.figures
unfolding result_numbers
numbers_long r =
    let a = section single r.variables in
    let b = section record_entry r.records in
    let c = section single r.answers in
    let d = section step_entry r.order in
    let e = section single r.figures in
    omega (
      arith,
      length-append a (b ++ (c ++ (d ++ e))),
      length-append b (c ++ (d ++ e)),
      length-append c (d ++ e),
      length-append d e,
      flat_length single 1 (λ x. refl) r.variables,
      flat_length record_entry 3 (λ x. refl) r.records,
      flat_length single 1 (λ x. refl) r.answers,
      flat_length step_entry 2 (λ x. refl) r.order,
      flat_length single 1 (λ x. refl) r.figures,
    )

-- and for a network by its variables, records and vertices.
pub result_long : (net : Network)
    → length (result_numbers (result_in net)) ≡ 8 + length net.variables + 3 * length (eliminated net).records + 3 * length net.starts
unfolding result_in
result_long net =
    let n = length net.starts in
    let g = links_of net.switches in
    omega (
      arith,
      numbers_long (result_in net),
      vertices_long (λ v. (eliminated net).cells (Start v)) n,
      steps_length g (vertices n) (order n g),
      order_length n g,
    )
