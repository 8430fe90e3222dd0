use Rattle.std.proofs.Common.{◌≡◌, ℕ, ◌<◌, ◌≤◌, true, false, length, Option, Some, slice_get}
use Rattle.sched_core.specs.State.{IsEdge, callee}
use Rattle.shared_schedule.specs.declared.view.TableSlot.TheVariants.{Nowhere}
use Rattle.shared_schedule.specs.Views.{callees_in, has_edge}
use Rattle.shared_schedule.specs.Seats.{IsIdle}
use Rattle.shared_schedule.proofs.worker.take_edges.Given as goal

abbrev pub invariant-loop-i : goal.invariant-loop-i
invariant-loop-i g l = record {
  idle : IsIdle l.shared.table.shared.table_id l.shared.plan l.seat;
  id : l.seat.id ≡ l.fn.seat.id;
  same : l.seat.me.0 ≡ record l.fn.seat.me.0 { emptied = l.seat.me.0.emptied; out = Nowhere };
  all : (j : ℕ) → j < l.i → has_edge l.seat.me.0.emptied l.m j ≡ true;
  many : length l.received.items ≡ l.i;
  each : (j : ℕ) (o : Option _) → slice_get l.received.items j ≡ Some o → g.P.Pieces.copied l.shared.plan.pieces (callee (callees_in l.shared.plan) l.m j) o;
  more : (j : ℕ) → l.i ≤ j → IsEdge (callees_in l.shared.plan) l.m j → has_edge l.seat.me.0.emptied l.m j ≡ false;
}
