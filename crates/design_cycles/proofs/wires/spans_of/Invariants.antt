use Rattle.std.proofs.Common.{◌≡◌, ◌+◌, map, take}
use Rattle.wiring.specs.Lists.{total}
use Rattle.ir_store.specs.Bodies.{ops_of}
use Rattle.ir_store.specs.Numbered.{ops_by_position}
use Rattle.ir_store.specs.Designs.{StoredModule, modules_of}
use Rattle.design_cycles.specs.Nodes.{bit_sets_by, sizes_in, AreSpans}
use Rattle.design_cycles.proofs.wires.spans_of.Given as goal

abbrev pub invariant-loop-position : goal.invariant-loop-position
invariant-loop-position l =
    AreSpans l.ports (sizes_in (bit_sets_by (map (λ (m : StoredModule). m.symbol) (modules_of l.scope.design.now)) l.scope.summaries.now) (take l.position (ops_by_position (ops_of l.scope.body.now)))) l.spans.items
    × (l.start ≡ l.ports + total (sizes_in (bit_sets_by (map (λ (m : StoredModule). m.symbol) (modules_of l.scope.design.now)) l.scope.summaries.now) (take l.position (ops_by_position (ops_of l.scope.body.now)))))
