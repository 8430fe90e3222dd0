use Rattle.shared_schedule.proofs.Callers.{rows-pushed}
use Rattle.shared_schedule.proofs.making.push_caller.Goals as goal

pub returns : goal.returns
returns c = rows-pushed (λ row. row.items) c.args.rows.now.items c.args.m c.index_mut.result.now c.push.new.self (c.args.c, c.args.i) c.requires c.index_mut.ensures.value c.in_ok-push.ensures.items
