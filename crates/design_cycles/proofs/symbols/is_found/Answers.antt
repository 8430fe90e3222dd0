use Rattle.ir_store.specs.Designs.{modules_of, module_of}
use Rattle.design_cycles.proofs.Returning.{found_some, found_none}
use Rattle.design_cycles.proofs.symbols.is_found.Goals as goal

pub returns-in-Some : goal.returns-in-Some
returns-in-Some c =
    found_some (modules_of c.args.design.now) c.args.number (module_of c.module.result.now) c.module.ensures c.as_bytes.result.now c.as_bytes.ensures c.in-Some.first c.in-Some.ensures.position

pub returns-in-None : goal.returns-in-None
returns-in-None c =
    found_none (modules_of c.args.design.now) c.args.number (module_of c.module.result.now) c.module.ensures c.as_bytes.result.now c.as_bytes.ensures c.in-None.ensures.position
