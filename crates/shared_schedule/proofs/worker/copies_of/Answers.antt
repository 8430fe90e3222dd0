use Rattle.shared_schedule.proofs.Copies.{copies-more}
use Rattle.shared_schedule.proofs.worker.copies_of.Goals as goal

pub loop-caller-preserved : goal.loop-caller-preserved
loop-caller-preserved g c = copies-more _ c.loop-caller._caller c.loop-caller.copies.items _ _ c.loop-caller.invariant c.in_ok-copy.ensures c.in_ok-push.ensures.items
