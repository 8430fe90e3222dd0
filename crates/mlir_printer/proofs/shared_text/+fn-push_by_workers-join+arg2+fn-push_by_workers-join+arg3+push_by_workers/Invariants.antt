use Rattle.std.proofs.Common.{◌*◌, ◌+◌}
use Rattle.mlir_printer.proofs.shared_text.+fn-push_by_workers-join+arg2+fn-push_by_workers-join+arg3+push_by_workers.Given as goal

abbrev pub decreases-push_by_workers : goal.decreases-push_by_workers
decreases-push_by_workers g l = 2 * l.workers

abbrev pub decreases-join+arg2 : goal.decreases-join+arg2
decreases-join+arg2 g l = 2 * l.rest + 1

abbrev pub decreases-join+arg3 : goal.decreases-join+arg3
decreases-join+arg3 g l = 2 * l.half + 1
