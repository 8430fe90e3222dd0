use Rattle.std.proofs.Common.{◌≡◌, ℕ, ◌<◌, map, length, slice_index}
use Rattle.shared_schedule.specs.Rule.{edge_slot}
use Rattle.shared_schedule.proofs.making.first_slots.Given as goal

abbrev pub invariant-loop-row : goal.invariant-loop-row
invariant-loop-row l = record {
  size : length l.positions.items ≡ l.row-index;
  next : l.next ≡ edge_slot (map (λ row. row.items) l.callees) l.row-index 0;
  firsts : (c : ℕ) → c < l.row-index → slice_index l.positions.items c ≡ edge_slot (map (λ row. row.items) l.callees) c 0;
}
