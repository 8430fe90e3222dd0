use Rattle.std.proofs.Common.{◌≡◌, drop}
use Rattle.printing_laws.specs.NameHints.{instance_name_hints}
use Rattle.mlir_printer.specs.Chosen.{with_name_hints}
use Rattle.mlir_printer.specs.Views.{chosen_names}
use Rattle.mlir_printer.proofs.value_names.ValueNames.take_outputs.Given as goal

abbrev pub invariant-loop-port : goal.invariant-loop-port
invariant-loop-port l = record {
  chosen : with_name_hints (chosen_names l.self) (instance_name_hints l.instance.name (drop l.port-index l.port-items))
      ≡ with_name_hints (chosen_names l.initial.self) (instance_name_hints l.instance.name l.port-items);
  ports : l.self.ports ≡ l.initial.self.ports;
  slots : l.self.slots ≡ l.initial.self.slots;
}
