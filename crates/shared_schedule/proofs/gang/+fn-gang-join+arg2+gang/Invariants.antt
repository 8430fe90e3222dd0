use Rattle.std.proofs.Common.{◌*◌, ◌-◌}
use Rattle.shared_schedule.proofs.gang.+fn-gang-join+arg2+gang.Given as goal

abbrev pub decreases-gang : goal.decreases-gang
decreases-gang g l = 2 * l.workers

abbrev pub decreases-join+arg2 : goal.decreases-join+arg2
decreases-join+arg2 g l = 2 * l.workers - 1
