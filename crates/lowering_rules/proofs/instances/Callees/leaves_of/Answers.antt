use Rattle.ir_store.specs.Designs.{ports_in, design_of}
use Rattle.hw_model.specs.Design.{find_module}
use Rattle.lowering_rules.specs.Callees.{module_leaves}
use Rattle.lowering_rules.proofs.NamedInstances.{lent_same}
use Rattle.lowering_rules.proofs.instances.Callees.leaves_of.Goals as goal

pub returns : goal.returns
returns c =
    let d = design_of c.args.self.design.now in
    lent_same ports_in module_leaves c.args.self.ports.now d c.in_ok-number.number c.get.result (find_module d c.args.symbol.now) c.get.ensures.lookup c.requires.ports_are c.in_ok-number.ensures.module
