use Rattle.std.proofs.Common.{map, ap, ◌∙◌, ◌+◌, refl}
use Rattle.ir_store.specs.Bodies.{ops_of}
use Rattle.ir_store.specs.Numbered.{ops_by_position}
use Rattle.ir_store.specs.Designs.{StoredModule, modules_of}
use Rattle.design_cycles.specs.Nodes.{bit_sets_by}
use Rattle.design_cycles.proofs.NodeLists.{spans_more}
use Rattle.design_cycles.proofs.wires.spans_of.Goals as goal

pub loop-position-preserved : goal.loop-position-preserved
loop-position-preserved c =
    spans_more (bit_sets_by (map (λ (m : StoredModule). m.symbol) (modules_of c.args.scope.now.design.now)) c.args.scope.now.summaries.now) (ops_by_position (ops_of c.args.scope.now.body.now)) c.loop-position.position c.args.ports
    c.size_at-count.result c.loop-position.start c.in-Some.next c.loop-position.spans.items c.push.new.self.items (record { start = c.loop-position.start; size = c.in-Ok.size; fits = c.push-arg-1.given.0 })
    c.size_at-count.ensures c.loop-position.invariant.0 c.loop-position.invariant.1 refl c.in-Ok.ensures.1 (c.in-Some.ensures.1 ∙ ap (λ n. c.loop-position.start + n) c.in-Ok.ensures.1) c.in_ok-push.ensures.items
