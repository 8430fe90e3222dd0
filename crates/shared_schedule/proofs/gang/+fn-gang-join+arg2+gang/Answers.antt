use Rattle.std.proofs.Common.{length, Result, IfOk, ap, subst}
use Rattle.shared_schedule.specs.Views.{callees_in}
use Rattle.shared_schedule.specs.Visits.{HasVisited}
use Rattle.shared_schedule.proofs.Visiting.{visited-both}
use Rattle.shared_schedule.proofs.gang.+fn-gang-join+arg2+gang.Goals as goal

pub returns-clause-visited : goal.returns-clause-visited
returns-clause-visited g t c =
    let modules = length (callees_in c.args.shared.now.plan) in
    let one = subst (λ (r : Result _ _). IfOk r (λ x. HasVisited modules c.split-other.new.seat.me.0 x.0.me.0 (g.G.Gate.told c.another-another.new.self) (g.G.Gate.told x.1))) c.in_ok-mine.was c.join-mine.ensures.first.1 in
    let two = subst (λ (r : Result _ _). IfOk r (λ x. HasVisited modules c.split-other.result.me.0 x.0.me.0 (g.G.Gate.told c.another-another.result) (g.G.Gate.told x.1))) c.in_ok-theirs.was c.join-mine.ensures.second.1 in
    visited-both modules c.args.seat.me.0 c.split-other.new.seat.me.0 c.split-other.result.me.0 c.in_ok-mine.mine.me.0 c.in_ok-theirs.theirs.me.0 c.gather-2.result.me.0
    (g.G.Gate.told c.args.gate) (g.G.Gate.told c.another-another.new.self) (g.G.Gate.told c.in_ok-mine.gate) (g.G.Gate.told c.in_ok-theirs.others) (g.G.Gate.told c.another-another.result) (g.G.Gate.told c.gather.new.self)
    (ap (λ v. v.moves) c.split-other.ensures.split) (ap (λ v. v.moves) c.split-other.ensures.new) c.another-another.ensures.lent c.another-another.ensures.new one two c.gather.ensures c.gather-2.ensures.moves
