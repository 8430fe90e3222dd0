use Rattle.std.proofs.Common.{◌≡◌, ℕ, ◌≤◌, length, slice_get, Some}
use Rattle.hw_model.specs.Design.{Module}
use Rattle.ir_store.specs.Designs.{modules_of, design_of}
use Rattle.export_verilog.specs.declared.named_design.PortNames.{PortNames}
use Rattle.export_verilog.specs.NamedDesigns.{ArePortsOf}
use Rattle.export_verilog.proofs.named_design.names_of_ports.Given as goal

abbrev pub invariant-loop-number : goal.invariant-loop-number
invariant-loop-number l = record {
  count : length l.ports.items ≡ l.number;
  within : l.number ≤ length (modules_of l.design);
  named : (n : ℕ) (m : Module) (x : PortNames) → slice_get (design_of l.design) n ≡ Some m → slice_get l.ports.items n ≡ Some x → ArePortsOf m x;
}
