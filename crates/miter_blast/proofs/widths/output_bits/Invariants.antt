use Rattle.std.proofs.Common.{◌≡◌, ◌≤◌, drop, map, length}
use Rattle.wiring.specs.Lists.{total}
use Rattle.hw_model.specs.Types.{width}
use Rattle.hw_model.specs.Sound.{output_types}
use Rattle.ir_store.specs.Designs.{port_of}
use Rattle.miter_blast.proofs.widths.output_bits.Given as goal

abbrev pub invariant-loop-left : goal.invariant-loop-left
invariant-loop-left l = record {
  within : l.left ≤ length l.ports.ports.items;
  bits : l.bits ≡ total (map width (output_types (map port_of (drop l.left l.ports.ports.items))));
}

abbrev pub decreases-loop-left : goal.decreases-loop-left
decreases-loop-left l = l.left
