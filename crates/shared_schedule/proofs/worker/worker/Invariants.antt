use Rattle.std.proofs.Common.{◌≡◌, false, [], length}
use Rattle.shared_schedule.specs.Views.{callees_in}
use Rattle.shared_schedule.specs.Seats.{IsIdle}
use Rattle.shared_schedule.specs.Working.{IsBetween, open_modules}
use Rattle.shared_schedule.specs.Visits.{HasVisited}
use Rattle.shared_schedule.proofs.worker.worker.Given as goal

abbrev pub invariant-loop-m : goal.invariant-loop-m
invariant-loop-m g l = record {
  idle : IsIdle l.shared.table.shared.table_id l.shared.plan l.seat;
  id : l.seat.id ≡ l.fn.seat.id;
  unpassed : l.seat.me.0.passed ≡ false;
  between : IsBetween (callees_in l.shared.plan) l.seat.me.0 [];
  queue : l.queue.items ≡ [];
  splits : l.seat.me.0.splits ≡ l.fn.seat.me.0.splits;
  shares : l.seat.me.0.shares ≡ l.fn.seat.me.0.shares;
  visited : HasVisited (length (callees_in l.shared.plan)) l.fn.seat.me.0 l.seat.me.0 (g.G.Gate.told l.fn.gate) (g.G.Gate.told l.gate);
}

abbrev pub decreases-loop-m : goal.decreases-loop-m
decreases-loop-m g l = open_modules (callees_in l.shared.plan) l.seat.me.0
