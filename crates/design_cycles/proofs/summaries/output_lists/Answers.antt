use Rattle.std.proofs.Common.{◌∷◌, [], ap, ◌∙◌, subst}
use Rattle.std.proofs.lemmas.List.{map-append}
use Rattle.ir_store.specs.declared.operation.Value.TheVariants.{Port}
use Rattle.graphs.specs.declared.graph.NodeList.{NodeList}
use Rattle.graphs.specs.Graphs.{lists_of}
use Rattle.design_cycles.specs.Nodes.{value_node}
use Rattle.design_cycles.specs.Summing.{AreInputs}
use Rattle.design_cycles.proofs.Inputs.{outputs_more, outputs_all}
use Rattle.design_cycles.proofs.summaries.output_lists.Goals as goal

pub loop-value-preserved : goal.loop-value-preserved
loop-value-preserved c =
    outputs_more (value_node c.args.layout.now) c.args.values.now c.loop-value.value-index (Port 0) (lists_of c.args.graph.now) c.args.inputs.now
    (lists_of c.push.new.self.items) (lists_of c.loop-value.lists.items) c.in_ok-inputs_of.field-0.nodes.items c.loop-value-test.true c.loop-value.invariant
    (subst (λ n. AreInputs (lists_of c.args.graph.now) c.args.inputs.now n c.in_ok-inputs_of.field-0.nodes.items) c.node_of.ensures c.in_ok-inputs_of.ensures)
    (ap lists_of c.in_ok-push.ensures.items ∙ map-append (λ (n : NodeList). n.nodes.items) c.loop-value.lists.items (c.in_ok-inputs_of.field-0 ∷ []))

pub returns : goal.returns
returns c =
    outputs_all (value_node c.args.layout.now) c.args.values.now c.loop-value.value-index (lists_of c.args.graph.now) c.args.inputs.now (lists_of c.loop-value.lists.items)
    c.loop-value-test.false c.loop-value.invariant
