use Rattle.std.proofs.Common.{sym, subst}
use Rattle.wiring.specs.Wiring.{In}
use Rattle.graphs.proofs.Placing.{numbers_more}
use Rattle.graphs.proofs.order.all_numbers.Goals as goal

pub loop-number-preserved : goal.loop-number-preserved
loop-number-preserved c =
    λ v below. subst (In v) (sym c.in_ok-push.ensures.items) (numbers_more c.loop-number.numbers.items c.loop-number.number c.loop-number.invariant v below)
