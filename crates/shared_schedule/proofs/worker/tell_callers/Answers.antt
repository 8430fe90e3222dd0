use Rattle.std.proofs.Common.{[], ◌+◌, map, drop, get_or, subst, ◌∙◌, arith}
use Rattle.std.proofs.lemmas.List.{drop_all}
use Rattle.shared_schedule.specs.Views.{callees_in}
use Rattle.shared_schedule.specs.Working.{IsTelling}
use Rattle.shared_schedule.proofs.Working.{goes-then, told-all}
use Rattle.shared_schedule.proofs.Copies.{copies-fewer, copy-here, copies-left}
use Rattle.shared_schedule.proofs.worker.tell_callers.Goals as goal

pub loop-k-preserved : goal.loop-k-preserved
loop-k-preserved g c = record {
  idle = c.in_ok-tell.ensures.idle;
  id = c.in_ok-tell.ensures.id ∙ c.loop-k.invariant.id;
  telling = c.in_ok-tell.ensures.told (drop (c.loop-k.k + 1) (get_or (map (λ row. row.items) c.args.shared.now.callers.items) c.args.m []))
      (subst (λ es. IsTelling (callees_in c.args.shared.now.plan) c.loop-k.seat.me.0 c.loop-k.queue.items c.args.m es) c.caller-edge.ensures c.loop-k.invariant.telling);
  many = copies-fewer c.loop-k.copies.items c.next_copy-copy.new.copies.items c.next_copy-copy.result c.loop-k.k _ c.loop-k.invariant.many c.next_copy-copy.ensures;
  each = copies-left _ c.loop-k.copies.items c.next_copy-copy.new.copies.items c.next_copy-copy.result c.loop-k.invariant.each c.next_copy-copy.ensures;
  on = goes-then _ _ _ c.loop-k.invariant.on c.in_ok-tell.ensures.on;
  done = λ n. c.in_ok-tell.ensures.done n ∙ c.loop-k.invariant.done n;
}

pub tell-requires-clause-copied : goal.tell-requires-clause-copied
tell-requires-clause-copied g c = copy-here _ c.loop-k.copies.items c.next_copy-copy.new.copies.items c.next_copy-copy.result c.loop-k.invariant.each c.next_copy-copy.ensures

pub returns-clause-between : goal.returns-clause-between
returns-clause-between g c =
    let callees = callees_in c.args.shared.now.plan in
    let edges = get_or (map (λ row. row.items) c.args.shared.now.callers.items) c.args.m [] in
    told-all callees c.loop-k.seat.me.0 c.loop-k.queue.items c.args.m
    (subst (λ es. IsTelling callees c.loop-k.seat.me.0 c.loop-k.queue.items c.args.m es) (drop_all c.loop-k.k edges (omega (arith, c.loop-k-test.false, c.caller_count-k-end.ensures))) c.loop-k.invariant.telling)
