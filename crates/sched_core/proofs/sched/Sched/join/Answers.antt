use Rattle.std.proofs.Common.{◌≡◌, true, map, set, sym, ap, subst, ◌∙◌, arith}
use Rattle.std.specs.Vec.{with_items}
use Rattle.std.proofs.lemmas.List.{with_items_is}
use Rattle.sched_core.specs.declared.event.Event.TheVariants.{Join}
use Rattle.sched_core.specs.Table.{Table, state_of, heir_after}
use Rattle.sched_core.specs.Views.{table_of}
use Rattle.sched_core.proofs.Shapes.{Writes}
use Rattle.sched_core.proofs.WorkerWrites.{join-writes}
use Rattle.sched_core.proofs.Openings.{through}
use Rattle.sched_core.proofs.sched.Sched.join.Goals as goal

pub invariant_of-self : goal.invariant_of-self
invariant_of-self c =
    (through c.self.view_is c.requires (λ may.
    let t = table_of c.self.inside in
    let same : (with_items c.self.inside.heirs c.pass_on.new.heirs).items ≡ map (heir_after c.args.kept c.args.gone) t.heirs =
    with_items_is c.self.inside.heirs c.pass_on.new.heirs (omega arith) ∙ c.pass_on.ensures ∙ ap (map (heir_after c.args.kept c.args.gone)) c.deref_mut.ensures.value in
    subst (λ heirs. Writes t (record t { workers = set t.workers c.args.gone (record c.worker-worker.result { gone = true }); heirs = heirs }) (Join c.args.kept c.args.gone)) (sym same)
    (join-writes t c.args.kept c.args.gone c.worker-worker.result c.self.invariant may
    (c.worker-worker.ensures ∙ ap (λ (s : Table). (state_of s).worker c.args.gone) (sym c.self.view_is))))).0

pub returns : goal.returns
returns c =
    (through c.self.view_is c.requires (λ may.
    let t = table_of c.self.inside in
    let same : (with_items c.self.inside.heirs c.pass_on.new.heirs).items ≡ map (heir_after c.args.kept c.args.gone) t.heirs =
    with_items_is c.self.inside.heirs c.pass_on.new.heirs (omega arith) ∙ c.pass_on.ensures ∙ ap (map (heir_after c.args.kept c.args.gone)) c.deref_mut.ensures.value in
    subst (λ heirs. Writes t (record t { workers = set t.workers c.args.gone (record c.worker-worker.result { gone = true }); heirs = heirs }) (Join c.args.kept c.args.gone)) (sym same)
    (join-writes t c.args.kept c.args.gone c.worker-worker.result c.self.invariant may
    (c.worker-worker.ensures ∙ ap (λ (s : Table). (state_of s).worker c.args.gone) (sym c.self.view_is))))).1
