use Rattle.std.proofs.Common.{◌≡◌, ◌+◌, ◌++◌, length, map}
use Rattle.ir_store.specs.Designs.{port_of}
use Rattle.mlir_reader.specs.Resolving.{ports_from, port_definitions, with_definitions}
use Rattle.mlir_operations.specs.Views.{port_text_of}
use Rattle.mlir_reader.specs.Meanings.{meanings_of}
use Rattle.mlir_reader.proofs.resolving.resolved_ports.Given as goal

abbrev pub invariant-loop-port : goal.invariant-loop-port
invariant-loop-port l = record {
  ports : map port_of l.list.items ++ ports_from (meanings_of l.names) l.position (map port_text_of l.port-iterator.rest.items)
      ≡ ports_from (meanings_of l.fn.names) 0 (map port_text_of l.fn.ports.items);
  means : with_definitions (meanings_of l.names) (port_definitions l.position (map port_text_of l.port-iterator.rest.items))
      ≡ with_definitions (meanings_of l.fn.names) (port_definitions 0 (map port_text_of l.fn.ports.items));
  count : l.position + length l.port-iterator.rest.items ≡ length l.fn.ports.items;
}
