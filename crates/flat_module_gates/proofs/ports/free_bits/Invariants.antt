use Rattle.std.proofs.Common.{◌≡◌, ◌≤◌, drop, map, length}
use Rattle.ir_store.specs.Designs.{port_of}
use Rattle.net_gates.specs.ClockedInputs.{free_bits}
use Rattle.flat_module_gates.proofs.ports.free_bits.Given as goal

abbrev pub invariant-loop-left : goal.invariant-loop-left
invariant-loop-left l = record {
  within : l.left ≤ length l.ports.ports.items;
  bits : l.bits ≡ free_bits (map port_of (drop l.left l.ports.ports.items));
}

abbrev pub decreases-loop-left : goal.decreases-loop-left
decreases-loop-left l = l.left
