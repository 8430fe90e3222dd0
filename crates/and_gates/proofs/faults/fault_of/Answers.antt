use Rattle.std.proofs.Common.{ap, ◌∙◌, slice_get}
use Rattle.ir_store.specs.Designs.{design_of, module_of, numbered_module}
use Rattle.op_verifier.specs.Answered.{modules_verified}
use Rattle.flat_module_gates.proofs.StepMade.{alone_is}
use Rattle.and_gates.proofs.ClockedSteps.{fault_from}
use Rattle.and_gates.proofs.faults.fault_of.Goals as goal

pub returns : goal.returns
returns c =
    let e = design_of c.args.copy.now.design in
    let one = numbered_module (module_of c.module-one.result.now) in
    let alone = alone_is (modules_verified c.args.copy.now) (module_of c.module-one.result.now) c.requires (c.module-one.ensures ∙ ap (λ ms. slice_get ms 0) c.design.ensures) in
    fault_from e one alone.0 c.export_fault.result c.export_fault.ensures
