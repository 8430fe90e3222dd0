use Rattle.std.proofs.Common.{◌≡◌, take}
use Rattle.ir_store.specs.Designs.{modules_of}
use Rattle.graphs.specs.Graphs.{lists_of}
use Rattle.design_cycles.proofs.Callees.{stored_calls}
use Rattle.design_cycles.proofs.calls.call_graph.Given as goal

abbrev pub invariant-loop-number : goal.invariant-loop-number
invariant-loop-number l = lists_of l.graph.items ≡ stored_calls (modules_of l.design) (take l.number (modules_of l.design))
