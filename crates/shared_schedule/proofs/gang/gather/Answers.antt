use Rattle.std.proofs.Common.{sym, subst}
use Rattle.shared_schedule.specs.Views.{callees_in}
use Rattle.shared_schedule.specs.Seats.{IsFinished}
use Rattle.shared_schedule.proofs.Joining.{both-finished}
use Rattle.shared_schedule.proofs.gang.gather.Goals as goal

pub returns-clause-finished : goal.returns-clause-finished
returns-clause-finished g c =
    subst (IsFinished (callees_in c.args.shared.now.plan)) (sym c.join.ensures.both)
    (both-finished (callees_in c.args.shared.now.plan) c.args.seat.me.0 c.args.other.me.0 c.requires.finished c.requires.other_finished)
