-- Each section's reading is its answer, and at each return the law of that way out gives the file's.
use Rattle.std.proofs.Common.{◌+◌, rules, arith}
use Rattle.network.specs.Faults.{coil_fault, given_fault, reference_fault, vertex_fault, switch_fault}
use Rattle.reader.specs.Callers.{passed_on}
use Rattle.reader.proofs.File.{Variables, Givens, Vertices, Switches, variables_wrong, givens_wrong, vertices_wrong, switches_wrong, file_trails, file_fine}
use Rattle.reader.proofs.check_within.Goals as goal
use Rattle.reader.proofs.check_within.Goals.{After-read_section, After-read_section-2, After-read_section-3, After-read_section-4}

variables : (c : After-read_section) → Variables c.args.limits c.args.file.now c.read_section.result
variables c = record { is = c.read_section.ensures.answer coil_fault (λ at k r h e. search rules) }

givens : (c : After-read_section-2) → Givens c.args.limits c.args.file.now c.in_ok-variables.variables c.read_section-2.result
givens c = record { is = c.read_section-2.ensures.answer (given_fault c.in_ok-variables.variables) (λ at k r h e. search rules) }

vertices : (c : After-read_section-3) → Vertices c.args.limits c.args.file.now c.in_ok-variables.variables c.in_ok-givens.givens c.read_section-3.result
unfolding vertex_fault reference_fault
vertices c = record { is = c.read_section-3.ensures.answer (vertex_fault (2 + c.in_ok-variables.variables + c.in_ok-givens.givens)) (λ at k r h e. search rules) }

switches : (c : After-read_section-4)
    → Switches c.args.limits c.args.file.now c.in_ok-variables.variables c.in_ok-givens.givens c.in_ok-vertices.vertices c.read_section-4.result
switches c =
    record { is = c.read_section-4.ensures.answer (switch_fault c.in_ok-vertices.vertices (2 + c.in_ok-variables.variables + c.in_ok-givens.givens)) (λ at k r h e. search rules) }

pub returns-in_err-variables : goal.returns-in_err-variables
returns-in_err-variables c =
    let at = goal.at.returns-in_err-variables c in
    rw (passed_on c.from_residual.result _ c.from_residual.ensures.1)
    (variables_wrong _ _ c.in_err-variables.was (variables at.After-read_section))

pub returns-in_err-givens : goal.returns-in_err-givens
returns-in_err-givens c =
    let at = goal.at.returns-in_err-givens c in
    rw (passed_on c.from_residual-in_err-givens.result _ c.from_residual-in_err-givens.ensures.1)
    (givens_wrong _ _ c.in_ok-variables.was (variables at.After-read_section)
    c.in_err-givens.was (givens at.After-read_section-2))

pub returns-in_err-vertices : goal.returns-in_err-vertices
returns-in_err-vertices c =
    let at = goal.at.returns-in_err-vertices c in
    rw (passed_on c.from_residual-in_err-vertices.result _ c.from_residual-in_err-vertices.ensures.1)
    (vertices_wrong _ _ c.in_ok-variables.was (variables at.After-read_section)
    c.in_ok-givens.was (givens at.After-read_section-2)
    c.in_err-vertices.was (vertices at.After-read_section-3))

pub returns-in_err-switches : goal.returns-in_err-switches
returns-in_err-switches c =
    let at = goal.at.returns-in_err-switches c in
    rw (passed_on c.from_residual-in_err-switches.result _ c.from_residual-in_err-switches.ensures.1)
    (switches_wrong _ _ c.in_ok-variables.was (variables at.After-read_section)
    c.in_ok-givens.was (givens at.After-read_section-2)
    c.in_ok-vertices.was (vertices at.After-read_section-3)
    c.in_err-switches.was (switches at.After-read_section-4))

pub returns-then-end-file : goal.returns-then-end-file
returns-then-end-file c =
    let at = goal.at.returns-then-end-file c in
    file_trails _ _ c.in_ok-variables.was (variables at.After-read_section)
    c.in_ok-givens.was (givens at.After-read_section-2)
    c.in_ok-vertices.was (vertices at.After-read_section-3)
    c.in_ok-switches.was (switches at.After-read_section-4) (omega arith)

pub returns : goal.returns
returns c =
    let at = goal.at.returns c in
    file_fine _ _ c.in_ok-variables.was (variables at.After-read_section)
    c.in_ok-givens.was (givens at.After-read_section-2)
    c.in_ok-vertices.was (vertices at.After-read_section-3)
    c.in_ok-switches.was (switches at.After-read_section-4) (omega arith)
