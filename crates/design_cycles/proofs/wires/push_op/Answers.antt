use Rattle.std.proofs.Common.{◌≡◌, ◌++◌, map, subst, sym, ap, ◌∙◌}
use Rattle.std.specs.Result.{IfOk}
use Rattle.std.proofs.lemmas.List.{length-map}
use Rattle.hw_model.specs.KindViews.{instance_of}
use Rattle.ir_store.specs.OperationViews.{result_of}
use Rattle.ir_store.specs.ShortLists.{short_items}
use Rattle.ir_store.specs.Designs.{StoredModule, modules_of}
use Rattle.graphs.specs.Graphs.{lists_of}
use Rattle.design_cycles.specs.Nodes.{bit_sets_by, bit_sets_at}
use Rattle.design_cycles.proofs.Pushing.{made_need, called_need}
use Rattle.design_cycles.proofs.wires.push_op.Goals as goal

pub returns-in-Made : goal.returns-in-Made
returns-in-Made c =
    subst (λ bit_sets. IfOk c.push_made.result (λ _. lists_of c.push_made.new.graph.items ≡ lists_of c.args.graph.now.items ++ bit_sets))
    (made_need c.args.scope.now.body.now c.op_at-op.result c.args.layout.now.ports (bit_sets_by
    (map (λ (m : StoredModule). m.symbol) (modules_of c.args.scope.now.design.now)) c.args.scope.now.summaries.now) c.args.position c.args.layout.now
    c.requires.layout c.op_at-op.ensures c.len.result
    (c.len.ensures ∙ sym (length-map (short_items c.op_at-op.result.results.now) result_of))
    c.in-Made.ensures.register c.in-Made.ensures.instance c.in-Made.ensures.output)
    c.push_made.ensures

pub returns-in-Calls : goal.returns-in-Calls
returns-in-Calls c =
    subst (λ bit_sets. IfOk c.push_instance.result (λ _. lists_of c.push_instance.new.graph.items ≡ lists_of c.args.graph.now.items ++ bit_sets))
    (called_need c.args.scope.now.body.now c.op_at-op.result c.args.layout.now.ports (bit_sets_by
    (map (λ (m : StoredModule). m.symbol) (modules_of c.args.scope.now.design.now)) c.args.scope.now.summaries.now) c.args.position c.args.layout.now
    c.requires.layout c.op_at-op.ensures (instance_of c.in-Calls.instance.now) (lists_of c.bit_sets_at-bit_sets.result.now)
    (c.bit_sets_at-bit_sets.ensures ∙ ap (bit_sets_at c.args.scope.now.summaries.now) c.find.ensures.position
    ∙ ap (bit_sets_by (map (λ (m : StoredModule). m.symbol) (modules_of c.args.scope.now.design.now)) c.args.scope.now.summaries.now) c.as_bytes.ensures)
    c.in-Calls.ensures.register c.in-Calls.ensures.instance)
    c.push_instance.ensures
