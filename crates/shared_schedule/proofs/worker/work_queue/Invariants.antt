use Rattle.std.proofs.Common.{◌≡◌, length}
use Rattle.shared_schedule.specs.Views.{callees_in}
use Rattle.shared_schedule.specs.Seats.{IsIdle}
use Rattle.shared_schedule.specs.Working.{IsBetween, GoesOn, open_modules}
use Rattle.shared_schedule.specs.Visits.{HasVisited}
use Rattle.shared_schedule.proofs.worker.work_queue.Given as goal

abbrev pub invariant-loop-m : goal.invariant-loop-m
invariant-loop-m g l = record {
  idle : IsIdle l.shared.table.shared.table_id l.shared.plan l.seat;
  id : l.seat.id ≡ l.fn.seat.id;
  between : IsBetween (callees_in l.shared.plan) l.seat.me.0 l.queue.items;
  on : GoesOn l.fn.seat.me.0 l.seat.me.0;
  visited : HasVisited (length (callees_in l.shared.plan)) l.fn.seat.me.0 l.seat.me.0 (g.G.Gate.told l.fn.gate) (g.G.Gate.told l.gate);
}

abbrev pub decreases-loop-m : goal.decreases-loop-m
decreases-loop-m g l = open_modules (callees_in l.shared.plan) l.seat.me.0
