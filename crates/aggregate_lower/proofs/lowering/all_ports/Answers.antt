use Rattle.std.proofs.Common.{map, ap, ◌∙◌, ◌∷◌, []}
use Rattle.std.proofs.lemmas.List.{map-append}
use Rattle.ir_store.specs.Designs.{modules_of, module_of, ports_in}
use Rattle.lowering_rules.specs.Callees.{module_leaves}
use Rattle.aggregate_lower.proofs.ModuleSteps.{one_more}
use Rattle.aggregate_lower.proofs.lowering.all_ports.Goals as goal

pub loop-number-preserved : goal.loop-number-preserved
loop-number-preserved c =
    one_more (modules_of c.args.design.now) c.loop-number.number (module_of c.module.result.now) c.module.ensures module_leaves (map ports_in c.loop-number.all.items) (map ports_in c.push.new.self.items)
    (ports_in c.in_ok-split_ports.field-0) (ap (map ports_in) c.in_ok-push.ensures.items ∙ map-append ports_in c.loop-number.all.items (c.in_ok-split_ports.field-0 ∷ []))
    c.in_ok-split_ports.ensures c.loop-number.invariant
