use Rattle.std.proofs.Common.{◌≡◌, ◌≤◌, ◌++◌, map, drop}
use Rattle.ir_store.specs.Designs.{port_of}
use Rattle.mlir_printer.specs.Commas.{items_from, commas}
use Rattle.mlir_printer.specs.Modules.{port_bytes}
use Rattle.mlir_printer.specs.Texts.{ports_shown}
use Rattle.mlir_printer.specs.Views.{names_held}
use Rattle.mlir_printer.proofs.modules.push_ports.Given as goal

abbrev pub invariant-loop-i : goal.invariant-loop-i
invariant-loop-i l = record {
  few : l.first ≤ l.i;
  bytes : l.out ++ items_from port_bytes l.i (ports_shown (drop l.first (names_held l.names)) (map port_of (drop l.i l.ports)))
      ≡ l.initial.out ++ commas port_bytes (ports_shown (names_held l.names) (map port_of l.ports));
}
