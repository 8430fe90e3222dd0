use Rattle.std.proofs.Common.{◌≡◌, ap, length, ◌∙◌, subst}
use Rattle.std.proofs.lemmas.List.{length-map}
use Rattle.shared_schedule.specs.Views.{callees_in}
use Rattle.shared_schedule.specs.Visits.{VisitsEach}
use Rattle.shared_schedule.proofs.FirstTable.{if-ok}
use Rattle.shared_schedule.proofs.Visiting.{visits-each}
use Rattle.shared_schedule.proofs.gang.run_modules.Goals as goal

pub returns-in-Ok-clause-visits : goal.returns-in-Ok-clause-visits
returns-in-Ok-clause-visits g c =
    let plan = c.in_ok-shared.shared.plan in
    let many : length (callees_in plan) ≡ length c.args.callees.items = ap length c.in_ok-shared.ensures.plan.1 ∙ length-map c.args.callees.items (λ row. row.items) in
    if-ok c.into_bodies.result (λ v once. subst (λ n. VisitsEach n (g.G.Gate.told c.args.gate.now) (g.G.Gate.told c.gather.new.self)) many
    (visits-each (length (callees_in plan)) c.in_ok-shared.seat.me.0 c.in-Ok.seat.me.0 (g.G.Gate.told c.args.gate.now) (g.G.Gate.told c.another-own.new.self) (g.G.Gate.told c.another-own.result)
    (g.G.Gate.told c.in-Ok.own) (g.G.Gate.told c.gather.new.self) (ap (λ v. v.moves) c.in_ok-shared.ensures.seat.1) c.another-own.ensures.lent c.another-own.ensures.new c.in-Ok.ensures.visited c.gather.ensures once))
    c.into_bodies.ensures.once
