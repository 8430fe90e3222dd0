use Rattle.std.proofs.Common.{◌≡◌, ℕ, length}
use Rattle.mlir_printer.specs.Slots.{slot_for}
use Rattle.mlir_printer.proofs.value_names.put_slot.Given as goal

abbrev pub invariant-loop : goal.invariant-loop
invariant-loop l = record {
  count : length l.slots.items ≡ l.counter;
  same : (id : ℕ) → slot_for l.slots.items id ≡ slot_for l.initial.slots.items id;
}
