use Rattle.ir_store.specs.Designs.{design_of, modules_of, module_of, numbered_module}
use Rattle.ir_store.proofs.StoredModules.{stored_at}
use Rattle.stored_form.specs.Canonical.{IsCanonicalModule}
use Rattle.stored_form.proofs.Lists.{not_each_found, each_found}
use Rattle.stored_form.proofs.modules.is_canonical.Goals as goal

pub returns-then-not-is_canonical_module : goal.returns-then-not-is_canonical_module
returns-then-not-is_canonical_module c =
    let d = c.args.design.now in
    not_each_found IsCanonicalModule (design_of d) c.loop-number.number (numbered_module (module_of c.module.result.now)) c.is_canonical_module.result
    (stored_at (modules_of d) c.loop-number.number (module_of c.module.result.now) c.module.ensures) c.is_canonical_module.ensures c.if-not-is_canonical_module.true

pub loop-number-preserved : goal.loop-number-preserved
loop-number-preserved c =
    let d = c.args.design.now in
    each_found IsCanonicalModule (design_of d) c.loop-number.number (numbered_module (module_of c.module.result.now))
    (stored_at (modules_of d) c.loop-number.number (module_of c.module.result.now) c.module.ensures) c.loop-number.invariant (c.is_canonical_module.ensures.0 c.if-not-is_canonical_module.false)
