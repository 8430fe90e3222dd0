use Rattle.std.proofs.Common.{length, map, ap, subst, sym, ◌∙◌}
use denote.Param.Send.{sendable}
use Rattle.std.proofs.Crossing.{crosses}
use Rattle.std.proofs.lemmas.List.{length-map}
use Rattle.std.specs.Arc.{arc_value}
use Rattle.ir_store.specs.Designs.{modules_of}
use Rattle.ir_store.proofs.ThreadBodies.{body_send, body_sync}
use Rattle.pass_manager.specs.Works.{with_bodies, IsFirst, IsMade}
use Rattle.pass_manager.proofs.AllBodies.{all_made, each_first, count_taken, count_emptied}
use Rattle.pass_manager.proofs.OwnedBodies.{count_owned, count_freed, owned_at, each_owned, ops_owned}
use Rattle.pass_manager.proofs.Visits.{visits_all}
use Rattle.pass_manager.proofs.run.change_bodies.Goals as goal

pub run_modules-requires-send-P-Body : goal.run_modules-requires-send-P-Body
run_modules-requires-send-P-Body g c κs within = search (sendable, body_send, body_sync, crosses) depth 40 fits 20000

pub run_modules-requires-clause-bodies : goal.run_modules-requires-clause-bodies
run_modules-requires-clause-bodies g c κs within =
    count_owned c.in_ok-firsts.firsts.items c.in_ok-bodies.bodies.items c.in_ok-firsts.ensures
    ∙ count_taken (modules_of c.args.design.now) c.in_ok-bodies.bodies.items c.in_ok-bodies.ensures.bodies ∙ sym c.in_ok-callees.ensures.count

pub run_modules-requires-clause-first : goal.run_modules-requires-clause-first
run_modules-requires-clause-first g c κs within m b at =
    subst (λ before. IsFirst before.items m (arc_value b)) (sym c.of.ensures)
    (each_first (modules_of c.args.design.now) c.in_ok-bodies.bodies.items c.requires.fit c.in_ok-bodies.ensures.bodies m (arc_value b)
    (owned_at c.in_ok-firsts.firsts.items c.in_ok-bodies.bodies.items m b c.in_ok-firsts.ensures at))

pub put_bodies-requires : goal.put_bodies-requires
put_bodies-requires g c =
    count_freed c.in_ok-done.done.items c.in_ok-bodies-2.bodies.items c.in_ok-bodies-2.ensures ∙ c.in_ok-done.ensures.len ∙ c.in_ok-callees.ensures.count
    ∙ sym (ap length c.in_ok-bodies.ensures.modules ∙ count_emptied (modules_of c.args.design.now))

pub returns-clause-visits : goal.returns-clause-visits
returns-clause-visits g c = visits_all (modules_of c.args.design.now) _ _ _ c.in_ok-callees.ensures.count c.in_ok-done.ensures.visits

pub returns-clause-made : goal.returns-clause-made
returns-clause-made g c =
    all_made g.P.BodyPass.makes (modules_of c.args.design.now) (modules_of c.take_bodies.new.design) (modules_of c.put_bodies.new.design) c.in_ok-bodies.bodies.items
    (map arc_value c.in_ok-done.done.items) c.in_ok-bodies.ensures.bodies c.in_ok-bodies.ensures.modules
    (length-map c.in_ok-done.done.items arc_value ∙ c.in_ok-done.ensures.len ∙ c.in_ok-callees.ensures.count
    ∙ sym (count_taken (modules_of c.args.design.now) c.in_ok-bodies.bodies.items c.in_ok-bodies.ensures.bodies))
    (each_owned (IsMade g.P.BodyPass.makes c.in_ok-bodies.bodies.items) c.in_ok-done.done.items
    (λ i b at. subst (λ before. IsMade g.P.BodyPass.makes before.items i (arc_value b)) c.of.ensures (c.in_ok-done.ensures.finished i b at)))
    (c.put_bodies.ensures ∙ ap (λ ops. with_bodies ops (modules_of c.take_bodies.new.design)) (c.in_ok-bodies-2.ensures ∙ sym (ops_owned c.in_ok-done.done.items)))
