use Rattle.std.proofs.Common.{◌^◌, map, length, arith, ap, ◌∙◌}
use Rattle.ir_store.specs.Bodies.{ids_of, ops_of}
use Rattle.ir_store.specs.Numbered.{ops_by_position}
use Rattle.ir_store.specs.Designs.{StoredModule, modules_of, port_of}
use Rattle.graphs.specs.Graphs.{lists_of}
use Rattle.design_cycles.specs.Nodes.{bit_sets_by}
use Rattle.design_cycles.proofs.Graphing.{graph_small}
use Rattle.graphs.proofs.Marking.{length-lists}
use Rattle.design_cycles.specs.Summing.{inputs_from}
use Rattle.design_cycles.proofs.Inputs.{inputs_small}
use Rattle.design_cycles.proofs.Known.{summed_at}
use Rattle.design_cycles.proofs.summaries.summary_of.Goals as goal

pub input_ports-requires : goal.input_ports-requires
input_ports-requires c = omega (arith, c.in_ok-wired.ensures.small, ap length c.as_slice.ensures.value)

pub lists_of_outputs-requires : goal.lists_of_outputs-requires
lists_of_outputs-requires c = record {
  ids = c.in_ok-wired.ensures.ids;
  nodes =
      let bit_sets = bit_sets_by (map (λ (m : StoredModule). m.symbol) (modules_of c.args.design.now)) c.args.summaries.now in
      omega (
        arith,
        length-lists c.in_ok-wired.wired.graph.items,
        graph_small (length c.module-module.result.now.ports.ports.items) bit_sets (ops_by_position (ops_of c.module-module.result.now.body)) (lists_of c.in_ok-wired.wired.graph.items)
            c.in_ok-wired.ensures.graph (ids_of c.module-module.result.now.body) c.in_ok-wired.wired.layout c.in_ok-wired.ensures.layout c.in_ok-wired.ensures.small,
      );
  small = inputs_small c.module-module.result.now.ports.ports.items c.as_slice-3.result.now (2 ^ 32) c.in_ok-wired.ensures.small
      (c.as_slice-3.ensures.value ∙ c.in_ok-inputs.ensures ∙ ap (λ ps. inputs_from 0 (map port_of ps)) c.as_slice.ensures.value);
}

pub returns : goal.returns
returns c =
    summed_at (modules_of c.args.design.now) c.requires.distinct c.args.number c.module-module.result.now c.module-module.ensures c.args.summaries.now c.requires.inner
    c.in_ok-wired.wired.layout c.in_ok-wired.ensures.layout (lists_of c.in_ok-wired.wired.graph.items) c.in_ok-wired.ensures.graph
    c.as_slice-3.result.now (c.as_slice-3.ensures.value ∙ c.in_ok-inputs.ensures ∙ ap (λ ps. inputs_from 0 (map port_of ps)) c.as_slice.ensures.value)
    c.outputs_of-given.result.now c.outputs_of-given.ensures (lists_of c.in_ok-outputs.outputs.items) c.in_ok-outputs.ensures
