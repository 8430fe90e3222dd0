use Rattle.std.proofs.Common.{◌≡◌, ◌<◌, slice_index, length, arith}
use Rattle.std.proofs.lemmas.List.{get_or_read}
use Rattle.sched_core.proofs.EdgeSums.{edge_within}
use Rattle.shared_schedule.specs.Views.{callees_in}
use Rattle.shared_schedule.specs.Rule.{edge_slot, slots_of}
use Rattle.shared_schedule.proofs.Positions.{edge_slot-lt}
use Rattle.shared_schedule.proofs.shared.Shared.slot_of.Goals as goal

pub overflow_add-result : goal.overflow_add-result
overflow_add-result g c =
    let callees = callees_in c.args.self.now.plan in
    let within : c.args.c < length callees = edge_within callees c.args.c c.args.i c.requires in
    let first : slice_index c.args.self.now.first_slots.items c.args.c ≡ edge_slot callees c.args.c 0 = c.args.self.now.firsts c.args.c (omega arith) in
    let below : edge_slot callees c.args.c c.args.i < slots_of callees = edge_slot-lt callees c.args.c c.args.i c.requires in
    let read = get_or_read c.args.self.now.first_slots.items c.args.c c.index.result.now (omega (arith, c.args.self.now.positions)) c.index.ensures 0 in
    omega (arith, c.args.self.now.few, read)
