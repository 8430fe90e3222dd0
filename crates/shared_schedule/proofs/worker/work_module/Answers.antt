use Rattle.std.proofs.Common.{◌∷◌, ◌++◌, [], map, length, get_or, ap, sym, subst, ◌∙◌}
use Rattle.shared_schedule.specs.declared.view.Hold.TheVariants.{Begun, Over}
use Rattle.shared_schedule.specs.Views.{callees_in, last_move, is_over, has_edge}
use Rattle.shared_schedule.specs.Working.{IsBetween, GoesOn}
use Rattle.shared_schedule.proofs.Working.{between-due, worked-on, done-telling, goes-then, less-open, move-here, on-ok}
use Rattle.shared_schedule.proofs.Visiting.{visited-one}
use Rattle.shared_schedule.proofs.worker.work_module.Goals as goal

pub take_body-body-requires-clause-within : goal.take_body-body-requires-clause-within
take_body-body-requires-clause-within g c = (between-due (callees_in c.args.shared.now.plan) c.args.seat.now.me.0 c.args.queue.now.items c.args.m c.requires.between).1

pub take_body-body-requires-clause-due : goal.take_body-body-requires-clause-due
take_body-body-requires-clause-due g c = ap (λ v. last_move v.moves c.args.m) c.look.ensures.same ∙ (between-due (callees_in c.args.shared.now.plan) c.args.seat.now.me.0 c.args.queue.now.items c.args.m c.requires.between).0

pub take_edges-requires-clause-within : goal.take_edges-requires-clause-within
take_edges-requires-clause-within g c = (between-due (callees_in c.args.shared.now.plan) c.args.seat.now.me.0 c.args.queue.now.items c.args.m c.requires.between).1

pub take_edges-requires-clause-begun : goal.take_edges-requires-clause-begun
take_edges-requires-clause-begun g c = ap (λ v. last_move v.moves c.args.m) c.take_body-body.ensures.begun ∙ move-here c.args.m Begun c.look.new.seat.me.0.moves

pub take_edges-requires-clause-full : goal.take_edges-requires-clause-full
take_edges-requires-clause-full g c = λ i edge.
    let due = ap (λ v. last_move v.moves c.args.m) c.look.ensures.same ∙ (between-due (callees_in c.args.shared.now.plan) c.args.seat.now.me.0 c.args.queue.now.items c.args.m c.requires.between).0 in
    ap (λ v. has_edge v.emptied c.args.m i) c.take_body-body.ensures.begun ∙ c.look.ensures.agrees.due c.args.m i edge due

pub work-requires-clause-within : goal.work-requires-clause-within
work-requires-clause-within g c = (between-due (callees_in c.args.shared.now.plan) c.args.seat.now.me.0 c.args.queue.now.items c.args.m c.requires.between).1

pub copies_of-requires-clause-within : goal.copies_of-requires-clause-within
copies_of-requires-clause-within g c = (between-due (callees_in c.args.shared.now.plan) c.args.seat.now.me.0 c.args.queue.now.items c.args.m c.requires.between).1

pub keep-requires-clause-within : goal.keep-requires-clause-within
keep-requires-clause-within g c = (between-due (callees_in c.args.shared.now.plan) c.args.seat.now.me.0 c.args.queue.now.items c.args.m c.requires.between).1

pub put_done-requires-clause-within : goal.put_done-requires-clause-within
put_done-requires-clause-within g c = (between-due (callees_in c.args.shared.now.plan) c.args.seat.now.me.0 c.args.queue.now.items c.args.m c.requires.between).1

pub put_done-requires-clause-begun : goal.put_done-requires-clause-begun
put_done-requires-clause-begun g c = ap (λ v. last_move v.moves c.args.m) (c.in_ok-received.ensures.emptied.same) ∙ ap (λ v. last_move v.moves c.args.m) c.take_body-body.ensures.begun ∙ move-here c.args.m Begun c.look.new.seat.me.0.moves

pub tell_callers-requires-clause-within : goal.tell_callers-requires-clause-within
tell_callers-requires-clause-within g c = (between-due (callees_in c.args.shared.now.plan) c.args.seat.now.me.0 c.args.queue.now.items c.args.m c.requires.between).1

pub tell_callers-requires-clause-telling : goal.tell_callers-requires-clause-telling
tell_callers-requires-clause-telling g c =
    let callees = callees_in c.args.shared.now.plan in
    let due = between-due callees c.args.seat.now.me.0 c.args.queue.now.items c.args.m c.requires.between in
    let worked = worked-on c.look.new.seat.me.0 c.take_body-body.new.seat.me.0 c.take_edges.new.seat.me.0 c.put_done.new.seat.me.0 c.args.m (ap (λ v. last_move v.moves c.args.m) c.look.ensures.same ∙ due.0)
    c.take_body-body.ensures.begun c.in_ok-received.ensures.emptied.same c.put_done.ensures.over in
    done-telling callees c.look.new.seat.me.0 c.put_done.new.seat.me.0 c.args.queue.now.items c.args.m (get_or (map (λ row. row.items) c.args.shared.now.callers.items) c.args.m [])
    (subst (λ v. IsBetween callees v (c.args.queue.now.items ++ c.args.m ∷ [])) (sym c.look.ensures.same) c.requires.between) c.look.ensures.agrees worked.1 worked.2 (c.args.shared.now.callers_are c.args.m due.1)

pub returns-clause-on : goal.returns-clause-on
returns-clause-on g c =
    let callees = callees_in c.args.shared.now.plan in
    let due = between-due callees c.args.seat.now.me.0 c.args.queue.now.items c.args.m c.requires.between in
    let worked = worked-on c.look.new.seat.me.0 c.take_body-body.new.seat.me.0 c.take_edges.new.seat.me.0 c.put_done.new.seat.me.0 c.args.m (ap (λ v. last_move v.moves c.args.m) c.look.ensures.same ∙ due.0)
    c.take_body-body.ensures.begun c.in_ok-received.ensures.emptied.same c.put_done.ensures.over in
    on-ok c.tell_callers.result (λ on. goes-then _ _ _ (subst (λ v. GoesOn v c.put_done.new.seat.me.0) c.look.ensures.same worked.0) on) c.tell_callers.ensures.on

pub returns-clause-less : goal.returns-clause-less
returns-clause-less g c =
    let callees = callees_in c.args.shared.now.plan in
    let due = between-due callees c.args.seat.now.me.0 c.args.queue.now.items c.args.m c.requires.between in
    let worked = worked-on c.look.new.seat.me.0 c.take_body-body.new.seat.me.0 c.take_edges.new.seat.me.0 c.put_done.new.seat.me.0 c.args.m (ap (λ v. last_move v.moves c.args.m) c.look.ensures.same ∙ due.0)
    c.take_body-body.ensures.begun c.in_ok-received.ensures.emptied.same c.put_done.ensures.over in
    on-ok c.tell_callers.result (λ on.
    let all = goes-then c.args.seat.now.me.0 c.put_done.new.seat.me.0 c.tell_callers.new.seat.me.0 (subst (λ v. GoesOn v c.put_done.new.seat.me.0) c.look.ensures.same worked.0) on in
    less-open callees c.args.seat.now.me.0 c.tell_callers.new.seat.me.0 c.args.m all.over due.1 (ap is_over due.0)
    (on.over c.args.m (ap (λ ms. is_over (last_move ms c.args.m)) worked.1 ∙ ap is_over (move-here c.args.m Over ((c.args.m, Begun) ∷ c.look.new.seat.me.0.moves)))))
    c.tell_callers.ensures.on

pub returns-clause-visited : goal.returns-clause-visited
returns-clause-visited g c =
    let callees = callees_in c.args.shared.now.plan in
    let due = between-due callees c.args.seat.now.me.0 c.args.queue.now.items c.args.m c.requires.between in
    let worked = worked-on c.look.new.seat.me.0 c.take_body-body.new.seat.me.0 c.take_edges.new.seat.me.0 c.put_done.new.seat.me.0 c.args.m (ap (λ v. last_move v.moves c.args.m) c.look.ensures.same ∙ due.0)
    c.take_body-body.ensures.begun c.in_ok-received.ensures.emptied.same c.put_done.ensures.over in
    on-ok c.tell_callers.result (λ same. visited-one (length callees) c.args.seat.now.me.0 c.put_done.new.seat.me.0 c.tell_callers.new.seat.me.0 c.args.m _ _ due.1
    (worked.1 ∙ ap (λ v. (c.args.m, Over) ∷ (c.args.m, Begun) ∷ v.moves) c.look.ensures.same) c.enter.ensures same)
    c.tell_callers.ensures.done
