use Rattle.std.proofs.Common.{◌∷◌, ◌++◌, [], ap, sym, subst, ◌∙◌}
use Rattle.shared_schedule.specs.Views.{callees_in}
use Rattle.shared_schedule.specs.Working.{IsBetween}
use Rattle.shared_schedule.proofs.Working.{drawn-between, drawn-less}
use Rattle.shared_schedule.proofs.Visiting.{visited-then, drawn-visited}
use Rattle.shared_schedule.proofs.worker.worker.Goals as goal

pub work_queue-requires-clause-between : goal.work_queue-requires-clause-between
work_queue-requires-clause-between g c =
    let callees = callees_in c.args.shared.now.plan in
    subst (λ q. IsBetween callees c.claim_leaf.new.seat.me.0 q) (sym (c.in_ok-push.ensures.items ∙ ap (λ q. q ++ c.in-Some.m ∷ []) c.loop-m.invariant.queue))
    (drawn-between callees c.loop-m.seat.me.0 c.claim_leaf.new.seat.me.0 c.in-Some.m c.loop-m.invariant.between c.in-Some.ensures.drawn c.in-Some.ensures.new c.in-Some.ensures.within)

pub loop-m-preserved : goal.loop-m-preserved
loop-m-preserved g c =
    let less = drawn-less (callees_in c.args.shared.now.plan) c.loop-m.seat.me.0 c.claim_leaf.new.seat.me.0 c.work_queue.new.seat.me.0 c.in-Some.m c.in-Some.ensures.drawn c.in-Some.ensures.new c.in-Some.ensures.within
    c.in_ok-work_queue.ensures.on c.in_ok-work_queue.ensures.between in
    record {
      idle = c.in_ok-work_queue.ensures.idle;
      id = c.in_ok-work_queue.ensures.id ∙ c.in-Some.ensures.id ∙ c.loop-m.invariant.id;
      unpassed = less.1.passed ∙ c.loop-m.invariant.unpassed;
      between = c.in_ok-work_queue.ensures.between;
      queue = c.in_ok-work_queue.ensures.queue;
      splits = less.1.splits ∙ c.loop-m.invariant.splits;
      shares = less.1.shares ∙ c.loop-m.invariant.shares;
      visited = visited-then _ _ _ _ _ _ _ c.loop-m.invariant.visited
          (visited-then _ _ _ _ _ _ _ (drawn-visited _ c.loop-m.seat.me.0 c.claim_leaf.new.seat.me.0 c.in-Some.m _ c.in-Some.ensures.drawn) c.in_ok-work_queue.ensures.visited);
    }

pub loop-m-smaller : goal.loop-m-smaller
loop-m-smaller g c = (drawn-less (callees_in c.args.shared.now.plan) c.loop-m.seat.me.0 c.claim_leaf.new.seat.me.0 c.work_queue.new.seat.me.0 c.in-Some.m c.in-Some.ensures.drawn c.in-Some.ensures.new c.in-Some.ensures.within
    c.in_ok-work_queue.ensures.on c.in_ok-work_queue.ensures.between).0
