use denote.Param.Send.{sendable}
use Rattle.std.proofs.Crossing.{crosses}
use Rattle.std.proofs.Common.{map, length, ap, sym, subst, ◌∙◌}
use Rattle.std.specs.Arc.{arc_value}
use Rattle.ir_store.specs.Designs.{design_of, modules_of}
use Rattle.ir_store.proofs.ThreadBodies.{body_send, body_sync}
use Rattle.ir_store.proofs.ThreadDesigns.{design_sync}
use Rattle.inline_pass.specs.OneBody.{IsOwnBody, AreHeaders}
use Rattle.pass_manager.specs.Flats.{AreListsOf, IsKeptBody}
use Rattle.pass_manager.proofs.AllBodies.{count_emptied}
use Rattle.pass_manager.proofs.FlatBodies.{headers_of, own_first, all_kept}
use Rattle.pass_manager.proofs.OwnedBodies.{count_freed}
use Rattle.pass_manager.proofs.Visits.{visits_all}
use Rattle.pass_manager.proofs.flattening.flatten_bodies.Goals as goal

pub run_modules-requires-send-P-Body : goal.run_modules-requires-send-P-Body
run_modules-requires-send-P-Body g c κs within = search (sendable, body_send, body_sync, crosses) depth 40 fits 20000

pub run_modules-requires-sync-P : goal.run_modules-requires-sync-P
run_modules-requires-sync-P g c κs within = search (sendable, design_sync, crosses) depth 40 fits 20000

pub run_modules-requires-clause-first : goal.run_modules-requires-clause-first
run_modules-requires-clause-first g c κs within m b at =
    subst (λ x. IsOwnBody (design_of x) m (arc_value b)) (sym c.of-before.ensures)
    (own_first (modules_of c.args.design.now) c.in_ok-bodies.bodies.items c.in_ok-firsts.firsts.items c.in_ok-bodies.ensures.bodies c.in_ok-firsts.ensures m b at)

pub run_modules-requires-clause-lists : goal.run_modules-requires-clause-lists
run_modules-requires-clause-lists g c κs within =
    subst (λ x. AreListsOf (design_of x) (modules_of c.take_bodies.new.design) (map (λ row. row.items) c.in_ok-callees.callees.items)) (sym c.of-before.ensures)
    (record {
      fit = c.requires.fit;
      headers_are = subst (AreHeaders (design_of c.args.design.now)) (sym c.in_ok-bodies.ensures.modules) (headers_of (modules_of c.args.design.now));
      lists_are = c.in_ok-callees.ensures.lists;
    })

pub put_bodies-requires : goal.put_bodies-requires
put_bodies-requires g c =
    count_freed c.in_ok-done.done.items c.in_ok-bodies-2.bodies.items c.in_ok-bodies-2.ensures ∙ c.in_ok-done.ensures.len ∙ c.in_ok-callees.ensures.count
    ∙ sym (ap length c.in_ok-bodies.ensures.modules ∙ count_emptied (modules_of c.args.design.now))

pub returns-clause-visits : goal.returns-clause-visits
returns-clause-visits g c = visits_all (modules_of c.args.design.now) _ _ _ c.in_ok-callees.ensures.count c.in_ok-done.ensures.visits

pub returns-clause-made : goal.returns-clause-made
returns-clause-made g c =
    all_kept (modules_of c.args.design.now) (modules_of c.take_bodies.new.design) (modules_of c.put_bodies.new.design) c.in_ok-done.done.items c.in_ok-bodies-2.bodies.items
    c.in_ok-bodies.ensures.modules (c.in_ok-done.ensures.len ∙ c.in_ok-callees.ensures.count) c.in_ok-bodies-2.ensures
    (λ i b at. subst (λ x. IsKeptBody (design_of x) i (arc_value b)) c.of-before.ensures (c.in_ok-done.ensures.finished i b at)) c.put_bodies.ensures
