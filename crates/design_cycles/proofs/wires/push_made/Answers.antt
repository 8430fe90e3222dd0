use Rattle.std.proofs.Common.{◌++◌, ap, ◌∙◌, sym}
use Rattle.graphs.specs.Graphs.{lists_of, times_over}
use Rattle.design_cycles.specs.Nodes.{value_nodes}
use Rattle.graphs.proofs.Repeated.{times_more}
use Rattle.design_cycles.proofs.NodeLists.{bit_set_more}
use Rattle.design_cycles.proofs.wires.push_made.Goals as goal

pub loop-preserved : goal.loop-preserved
loop-preserved c =
    bit_set_more c.push.new.self.items c.loop.graph.items (record { nodes = c.in_ok-nodes_of.field-0 }) (lists_of c.args.graph.now.items) (times_over c.loop.counter (value_nodes c.args.layout.now c.args.operands.now))
    (value_nodes c.args.layout.now c.args.operands.now) c.in_ok-push.ensures.items c.loop.invariant c.in_ok-nodes_of.ensures
    ∙ ap (λ bit_sets. lists_of c.args.graph.now.items ++ bit_sets) (sym (times_more c.loop.counter (value_nodes c.args.layout.now c.args.operands.now)))
