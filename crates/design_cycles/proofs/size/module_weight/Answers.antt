use Rattle.std.proofs.Common.{map}
use Rattle.ir_store.specs.Designs.{StoredModule, modules_of, module_of}
use Rattle.design_cycles.specs.Weighing.{weight_by}
use Rattle.design_cycles.proofs.Sizing.{module_sum}
use Rattle.design_cycles.proofs.size.module_weight.Goals as goal

pub returns : goal.returns
returns c =
    module_sum (weight_by (map (λ (m : StoredModule). m.symbol) (modules_of c.args.design.now)) c.args.weights.now) (modules_of c.args.design.now) c.args.number 18446744073709551615
    c.port_leaves.result c.in_ok-inside.inside c.saturating_add.result (module_of c.module-module.result.now) c.module-module.ensures c.port_leaves.ensures c.in_ok-inside.ensures c.saturating_add.ensures
