use Rattle.std.proofs.Common.{◌≡◌, ◌++◌, map, drop, length}
use Rattle.ir_store.specs.Designs.{port_of}
use Rattle.printing_laws.specs.NameHints.{port_name_hints}
use Rattle.mlir_printer.specs.Chosen.{with_name_hints}
use Rattle.mlir_printer.specs.Slots.{port_slots}
use Rattle.mlir_printer.specs.Views.{names_held, chosen_names}
use Rattle.mlir_printer.proofs.value_names.ValueNames.add_ports.Given as goal

abbrev pub invariant-loop-port : goal.invariant-loop-port
invariant-loop-port l = record {
  chosen : with_name_hints (chosen_names l.self) (port_name_hints (map port_of (drop l.port-index l.ports))) ≡ with_name_hints (chosen_names l.initial.self) (port_name_hints (map port_of l.ports));
  ports : l.self.ports.items ++ port_slots (length (names_held l.self)) (map port_of (drop l.port-index l.ports))
      ≡ l.initial.self.ports.items ++ port_slots (length (names_held l.initial.self)) (map port_of l.ports);
  slots : l.self.slots ≡ l.initial.self.slots;
}
