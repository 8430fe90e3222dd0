use Rattle.std.proofs.Common.{◌≡◌, min, map, take}
use Rattle.hw_model.specs.Weight.{body_weight}
use Rattle.ir_store.specs.Bodies.{ops_of}
use Rattle.ir_store.specs.Numbered.{ops_by_position}
use Rattle.ir_store.specs.Designs.{StoredModule, modules_of}
use Rattle.design_cycles.specs.Weighing.{weight_by}
use Rattle.design_cycles.proofs.size.body_weight.Given as goal

abbrev pub invariant-loop-position : goal.invariant-loop-position
invariant-loop-position l =
    l.sum ≡ min (body_weight (weight_by (map (λ (m : StoredModule). m.symbol) (modules_of l.design)) l.weights) (take l.position (ops_by_position (ops_of l.body)))) 18446744073709551615
