use Rattle.std.proofs.Common.{◌≡◌, ℕ, ◌+◌, [], map, drop, get_or, length, Option}
use Rattle.wiring.specs.Wiring.{In}
use Rattle.shared_schedule.specs.Views.{callees_in, done_times}
use Rattle.shared_schedule.specs.Seats.{IsIdle}
use Rattle.shared_schedule.specs.Working.{IsTelling, GoesOn}
use Rattle.shared_schedule.proofs.worker.tell_callers.Given as goal

abbrev pub invariant-loop-k : goal.invariant-loop-k
invariant-loop-k g l = record {
  idle : IsIdle l.shared.table.shared.table_id l.shared.plan l.seat;
  id : l.seat.id ≡ l.fn.seat.id;
  telling : IsTelling (callees_in l.shared.plan) l.seat.me.0 l.queue.items l.m (drop l.k (get_or (map (λ row. row.items) l.shared.callers.items) l.m []));
  many : length l.copies.items + l.k ≡ length (get_or (map (λ row. row.items) l.shared.callers.items) l.m []);
  each : (o : Option _) → In o l.copies.items → g.P.Pieces.copied l.shared.plan.pieces l.m o;
  on : GoesOn l.fn.seat.me.0 l.seat.me.0;
  done : (n : ℕ) → done_times l.seat.me.0.moves n ≡ done_times l.fn.seat.me.0.moves n;
}
