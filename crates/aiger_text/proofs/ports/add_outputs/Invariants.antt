use Rattle.std.proofs.Common.{◌≡◌, ◌+◌, ◌≤◌, ◌^◌, ◌++◌, map, length}
use Rattle.ir_store.specs.Designs.{port_of}
use Rattle.aiger_design.specs.Built.{output_ports}
use Rattle.aiger_text.proofs.ports.add_outputs.Given as goal

abbrev pub invariant-loop-literal : goal.invariant-loop-literal
invariant-loop-literal l = record {
  ports : map port_of l.ports.items ++ output_ports l.k l.rest ≡ map port_of l.fn.ports.items ++ output_ports 0 l.outputs;
  room : l.k + length l.rest ≤ 2 ^ 26;
}

abbrev pub decreases-loop-literal : goal.decreases-loop-literal
decreases-loop-literal l = length l.rest
