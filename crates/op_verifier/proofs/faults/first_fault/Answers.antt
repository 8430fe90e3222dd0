use Rattle.std.proofs.Common.{sym, ◌∙◌}
use Rattle.ir_store.specs.Designs.{design_of, modules_of, module_of, numbered_module}
use Rattle.ir_store.proofs.StoredModules.{stored_at}
use Rattle.op_verifier.proofs.FaultSteps.{module_refused, module_accepted}
use Rattle.op_verifier.proofs.faults.first_fault.Goals as goal

pub returns-in-Some : goal.returns-in-Some
returns-in-Some c =
    let d = c.args.design.now in
    let m = numbered_module (module_of c.module-module.result.now) in
    let there = stored_at (modules_of d) c.loop-number.number (module_of c.module-module.result.now) c.module-module.ensures in
    module_refused (design_of d) c.loop-number.number m c.in-Some.refusal _ there (sym c.in_ok-refusal.ensures ∙ c.in-Some.is) c.loop-number.invariant

pub loop-number-preserved : goal.loop-number-preserved
loop-number-preserved c =
    let d = c.args.design.now in
    let m = numbered_module (module_of c.module-module.result.now) in
    let there = stored_at (modules_of d) c.loop-number.number (module_of c.module-module.result.now) c.module-module.ensures in
    module_accepted (design_of d) c.loop-number.number m _ there (sym c.in_ok-refusal.ensures ∙ c.in-None.is) c.loop-number.invariant
