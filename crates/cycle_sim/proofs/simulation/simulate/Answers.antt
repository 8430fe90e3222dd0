use Rattle.ir_store.specs.Designs.{design_of}
use Rattle.op_verifier.specs.Answered.{modules_verified}
use Rattle.printing_laws.proofs.VerifiedDesigns.{canonical_designs_are_printable}
use Rattle.miter_blast.proofs.Compared.{stored_below, copy_alone}
use Rattle.miter_blast.proofs.Finding.{below_of}
use Rattle.cycle_sim.proofs.CopyRuns.{simulated, refused}
use Rattle.cycle_sim.proofs.simulation.simulate.Goals as goal

pub flat_copy-requires : goal.flat_copy-requires
flat_copy-requires c =
    stored_below (modules_verified c.args.design.now) c.in-Some.number
    (below_of (design_of c.args.design.now.design) c.in-Some.number c.in-Some.ensures.0 c.in-Some.ensures.1)

pub copy_run-requires : goal.copy_run-requires
copy_run-requires c =
    let d = design_of c.args.design.now.design in
    let printable = canonical_designs_are_printable d c.args.design.now.accepted c.args.design.now.canonical in
    copy_alone d c.args.top.now c.in-Some.number c.in-Some.ensures.0 c.args.design.now.accepted printable c.in-Some.ensures.1 c.in-Some.ensures.2
    (design_of c.in_ok-copy.copy.design) c.in_ok-copy.ensures

pub returns-in-Ok-clause-ok : goal.returns-in-Ok-clause-ok
returns-in-Ok-clause-ok c =
    let d = design_of c.args.design.now.design in
    let printable = canonical_designs_are_printable d c.args.design.now.accepted c.args.design.now.canonical in
    simulated d c.args.top.now c.in-Some.number c.in-Some.ensures.0 c.args.design.now.accepted printable c.in-Some.ensures.1 c.in-Some.ensures.2
    (design_of c.in_ok-copy.copy.design) c.in_ok-copy.ensures c.args.steps.now c.in-Ok.text c.in-Ok.ensures.ok

pub returns-clause-err : goal.returns-clause-err
returns-clause-err c =
    let d = design_of c.args.design.now.design in
    let printable = canonical_designs_are_printable d c.args.design.now.accepted c.args.design.now.canonical in
    rw c.failure.ensures
    (refused d c.args.top.now c.in-Some.number c.in-Some.ensures.0 c.args.design.now.accepted printable c.in-Some.ensures.1 c.in-Some.ensures.2
    (design_of c.in_ok-copy.copy.design) c.in_ok-copy.ensures c.args.steps.now c.in-Err.fail c.in-Err.ensures.err)
