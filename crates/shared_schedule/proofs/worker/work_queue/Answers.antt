use Rattle.std.proofs.Common.{◌∙◌}
use Rattle.shared_schedule.proofs.Working.{goes-then}
use Rattle.shared_schedule.proofs.Visiting.{visited-then}
use Rattle.shared_schedule.proofs.worker.work_queue.Goals as goal

pub loop-m-preserved : goal.loop-m-preserved
loop-m-preserved g c = record {
  idle = c.in_ok-work_module.ensures.idle;
  id = c.in_ok-work_module.ensures.id ∙ c.loop-m.invariant.id;
  between = c.in_ok-work_module.ensures.between;
  on = goes-then _ _ _ c.loop-m.invariant.on c.in_ok-work_module.ensures.on;
  visited = visited-then _ _ _ _ _ _ _ c.loop-m.invariant.visited c.in_ok-work_module.ensures.visited;
}
