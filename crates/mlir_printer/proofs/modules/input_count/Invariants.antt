use Rattle.std.proofs.Common.{◌≡◌, ◌+◌, ◌≤◌, map, drop, min}
use Rattle.ir_store.specs.Designs.{port_of}
use Rattle.mlir_printer.specs.Naming.{input_count}
use Rattle.mlir_printer.proofs.modules.input_count.Given as goal

abbrev pub invariant-loop-port : goal.invariant-loop-port
invariant-loop-port l = record {
  most : l.count ≤ 4294967295;
  rest : min (l.count + input_count (map port_of (drop l.port-index l.ports))) 4294967295 ≡ min (input_count (map port_of l.ports)) 4294967295;
}
