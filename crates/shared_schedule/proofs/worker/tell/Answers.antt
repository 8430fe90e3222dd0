use Rattle.std.proofs.Common.{ap, sym, subst, ◌∙◌}
use Rattle.sched_core.specs.State.{callee}
use Rattle.shared_schedule.specs.Views.{callees_in, last_move, has_edge}
use Rattle.shared_schedule.specs.Plays.{lent_edge, reported}
use Rattle.shared_schedule.specs.Seats.{Agrees}
use Rattle.shared_schedule.specs.Working.{IsTelling, GoesOn}
use Rattle.shared_schedule.proofs.Working.{next-edge, told-on, told-goes, on-ok, over-some}
use Rattle.shared_schedule.proofs.worker.tell.Goals as goal

pub put_edge-requires-clause-edge : goal.put_edge-requires-clause-edge
put_edge-requires-clause-edge g c =
    let callees = callees_in c.args.shared.now.plan in
    (next-edge callees c.args.seat.now.me.0 c.args.queue.now.items c.args.m c.args.edge.0 c.args.edge.1 c.requires.telling.0 (subst (Agrees callees) c.look.ensures.same c.look.ensures.agrees) c.requires.telling.1).edge

pub put_edge-requires-clause-over : goal.put_edge-requires-clause-over
put_edge-requires-clause-over g c =
    let callees = callees_in c.args.shared.now.plan in
    let next = next-edge callees c.args.seat.now.me.0 c.args.queue.now.items c.args.m c.args.edge.0 c.args.edge.1 c.requires.telling.0 (subst (Agrees callees) c.look.ensures.same c.look.ensures.agrees) c.requires.telling.1 in
    ap (λ v. last_move v.moves (callee callees c.args.edge.0 c.args.edge.1)) c.look.ensures.same ∙ ap (last_move c.args.seat.now.me.0.moves) next.callee_is
    ∙ over-some (last_move c.args.seat.now.me.0.moves c.args.m) c.requires.telling.1.over

pub put_edge-requires-clause-bare : goal.put_edge-requires-clause-bare
put_edge-requires-clause-bare g c =
    let callees = callees_in c.args.shared.now.plan in
    let next = next-edge callees c.args.seat.now.me.0 c.args.queue.now.items c.args.m c.args.edge.0 c.args.edge.1 c.requires.telling.0 (subst (Agrees callees) c.look.ensures.same c.look.ensures.agrees) c.requires.telling.1 in
    ap (λ v. has_edge v.told c.args.edge.0 c.args.edge.1) c.look.ensures.same ∙ next.bare

pub report-last-requires-clause-copy : goal.report-last-requires-clause-copy
report-last-requires-clause-copy g c =
    let callees = callees_in c.args.shared.now.plan in
    let next = next-edge callees c.args.seat.now.me.0 c.args.queue.now.items c.args.m c.args.edge.0 c.args.edge.1 c.requires.telling.0 (subst (Agrees callees) c.look.ensures.same c.look.ensures.agrees) c.requires.telling.1 in
    (c.args.copy, c.put_edge.ensures.copy, subst (λ k. g.P.Pieces.copied c.args.shared.now.plan.pieces k c.args.copy) (sym next.callee_is) c.requires.copied)

pub report-last-requires-clause-edge : goal.report-last-requires-clause-edge
report-last-requires-clause-edge g c =
    let callees = callees_in c.args.shared.now.plan in
    (next-edge callees c.args.seat.now.me.0 c.args.queue.now.items c.args.m c.args.edge.0 c.args.edge.1 c.requires.telling.0 (subst (Agrees callees) c.look.ensures.same c.look.ensures.agrees) c.requires.telling.1).edge

pub report-last-requires-clause-over : goal.report-last-requires-clause-over
report-last-requires-clause-over g c =
    let callees = callees_in c.args.shared.now.plan in
    let next = next-edge callees c.args.seat.now.me.0 c.args.queue.now.items c.args.m c.args.edge.0 c.args.edge.1 c.requires.telling.0 (subst (Agrees callees) c.look.ensures.same c.look.ensures.agrees) c.requires.telling.1 in
    ap (λ v. last_move v.moves (callee callees c.args.edge.0 c.args.edge.1)) (c.put_edge.ensures.lent ∙ ap (λ v. lent_edge v c.args.edge.0 c.args.edge.1) c.look.ensures.same)
    ∙ ap (last_move c.args.seat.now.me.0.moves) next.callee_is ∙ over-some (last_move c.args.seat.now.me.0.moves c.args.m) c.requires.telling.1.over

pub report-last-requires-clause-bare : goal.report-last-requires-clause-bare
report-last-requires-clause-bare g c =
    let callees = callees_in c.args.shared.now.plan in
    let next = next-edge callees c.args.seat.now.me.0 c.args.queue.now.items c.args.m c.args.edge.0 c.args.edge.1 c.requires.telling.0 (subst (Agrees callees) c.look.ensures.same c.look.ensures.agrees) c.requires.telling.1 in
    ap (λ v. has_edge v.told c.args.edge.0 c.args.edge.1) (c.put_edge.ensures.lent ∙ ap (λ v. lent_edge v c.args.edge.0 c.args.edge.1) c.look.ensures.same) ∙ next.bare

pub returns-clause-told : goal.returns-clause-told
returns-clause-told g c =
    let callees = callees_in c.args.shared.now.plan in
    let agrees = subst (Agrees callees) c.look.ensures.same c.look.ensures.agrees in
    let v = c.args.seat.now.me.0 in
    let last = c.report-last.result in
    let is = c.report-last.ensures.reported ∙ ap (λ w. reported w c.args.edge.0 c.args.edge.1 last) (c.put_edge.ensures.lent ∙ ap (λ w. lent_edge w c.args.edge.0 c.args.edge.1) c.look.ensures.same) in
    on-ok c.push_if.result (λ pushed rest tells.
    subst (λ w. IsTelling callees w c.push_if.new.numbers.items c.args.m rest) (sym is)
    (subst (λ q. IsTelling callees (reported v c.args.edge.0 c.args.edge.1 last) q c.args.m rest) (sym pushed)
    (told-on callees v c.args.queue.now.items c.args.m c.args.edge.0 c.args.edge.1 rest last (next-edge callees v c.args.queue.now.items c.args.m c.args.edge.0 c.args.edge.1 rest agrees tells) tells)))
    c.push_if.ensures

pub returns-clause-on : goal.returns-clause-on
returns-clause-on g c =
    let callees = callees_in c.args.shared.now.plan in
    let v = c.args.seat.now.me.0 in
    let last = c.report-last.result in
    let next = next-edge callees v c.args.queue.now.items c.args.m c.args.edge.0 c.args.edge.1 c.requires.telling.0 (subst (Agrees callees) c.look.ensures.same c.look.ensures.agrees) c.requires.telling.1 in
    let is = c.report-last.ensures.reported ∙ ap (λ w. reported w c.args.edge.0 c.args.edge.1 last) (c.put_edge.ensures.lent ∙ ap (λ w. lent_edge w c.args.edge.0 c.args.edge.1) c.look.ensures.same) in
    on-ok c.push_if.result (λ pushed. subst (GoesOn v) (sym is) (told-goes v c.args.edge.0 c.args.edge.1 last next.free)) c.push_if.ensures
