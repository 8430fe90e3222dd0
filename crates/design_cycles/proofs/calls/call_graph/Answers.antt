use Rattle.std.proofs.Common.{◌≡◌, ◌∷◌, ◌++◌, [], ap, ◌∙◌, arith}
use Rattle.std.proofs.lemmas.List.{map-append}
use Rattle.ir_store.specs.Designs.{modules_of, module_of}
use Rattle.graphs.specs.Graphs.{lists_of}
use Rattle.design_cycles.proofs.Callees.{stored_more, stored_all}
use Rattle.design_cycles.proofs.calls.call_graph.Goals as goal

pub loop-number-preserved : goal.loop-number-preserved
loop-number-preserved c =
    let grown : lists_of c.push.new.self.items ≡ lists_of c.loop-number.graph.items ++ c.in_ok-calls_of.field-0.nodes.items ∷ [] =
    ap lists_of c.in_ok-push.ensures.items ∙ map-append (λ n. n.nodes.items) c.loop-number.graph.items (c.in_ok-calls_of.field-0 ∷ []) in
    stored_more (modules_of c.args.design.now) c.loop-number.number (module_of c.module.result.now) (lists_of c.push.new.self.items) (lists_of c.loop-number.graph.items)
    c.in_ok-calls_of.field-0.nodes.items c.module.ensures c.loop-number.invariant c.in_ok-calls_of.ensures grown

pub returns : goal.returns
returns c =
    stored_all (modules_of c.args.design.now) c.loop-number.number (lists_of c.loop-number.graph.items) (omega (arith, c.module_count-number-end.ensures)) c.loop-number.invariant
