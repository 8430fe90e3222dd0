use Rattle.std.proofs.Common.{arith}
use Rattle.shared_schedule.proofs.worker.take_edges.Goals as goal

pub overflow_cast-at : goal.overflow_cast-at
overflow_cast-at g c = omega (arith, c.args.shared.now.lists.entries c.args.m)
