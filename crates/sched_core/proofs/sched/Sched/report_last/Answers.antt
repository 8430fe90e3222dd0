use Rattle.std.proofs.Common.{◌≡◌, ◌+◌, ◌-◌, get_or, set, true, sym, ap, subst, refl, ◌∙◌, arith}
use Rattle.std.specs.Vec.{with_item}
use Rattle.std.proofs.lemmas.List.{get_or_read}
use Rattle.sched_core.specs.declared.parts.Stage.TheVariants.{Owed}
use Rattle.sched_core.specs.declared.event.Event.TheVariants.{Report}
use Rattle.sched_core.specs.Table.{Table, state_of}
use Rattle.sched_core.specs.Views.{table_of}
use Rattle.sched_core.proofs.Reports.{unreported-waits}
use Rattle.sched_core.proofs.EdgeSums.{edge_within}
use Rattle.sched_core.proofs.Shapes.{Writes}
use Rattle.sched_core.proofs.StageWrites.{busy-room}
use Rattle.sched_core.proofs.EdgeWrites.{caller-within, reporter-lt, untold-positive}
use Rattle.sched_core.proofs.Openings.{through, may_by, rows-set, report_last-read}
use Rattle.sched_core.proofs.sched.Sched.report_last.Goals as goal

pub index_mut-requires-4 : goal.index_mut-requires-4
index_mut-requires-4 c =
    let t = table_of c.self.inside in
    omega (arith, reporter-lt t c.args.w c.args.c c.args.i c.self.invariant (may_by (Report c.args.w c.args.c c.args.i) c.self.view_is c.requires.may), c.self.invariant.positions.untold)

pub overflow_sub-index_mut-2 : goal.overflow_sub-index_mut-2
overflow_sub-index_mut-2 c =
    let t = table_of c.self.inside in
    let may = may_by (Report c.args.w c.args.c c.args.i) c.self.view_is c.requires.may in
    let few = reporter-lt t c.args.w c.args.c c.args.i c.self.invariant may in
    let old : c.index_mut-4.result.now ≡ get_or t.untold c.args.w 0 = get_or_read t.untold _ _ (omega (arith, few, c.self.invariant.positions.untold)) c.index_mut-4.ensures.value 0 in
    omega (arith, c.self.invariant.untold c.args.w few, untold-positive (state_of t) c.args.w c.args.c c.args.i may)

pub index_mut-requires-6 : goal.index_mut-requires-6
index_mut-requires-6 c =
    let t = table_of c.self.inside in
    omega (arith, reporter-lt t c.args.w c.args.c c.args.i c.self.invariant (may_by (Report c.args.w c.args.c c.args.i) c.self.view_is c.requires.may), c.self.invariant.positions.busy)

pub overflow_add-index_mut : goal.overflow_add-index_mut
overflow_add-index_mut c =
    let t = table_of c.self.inside in
    let may = may_by (Report c.args.w c.args.c c.args.i) c.self.view_is c.requires.may in
    let few = reporter-lt t c.args.w c.args.c c.args.i c.self.invariant may in
    let old : c.index_mut-6.result.now ≡ get_or t.busy c.args.w 0 = get_or_read t.busy _ _ (omega (arith, few, c.self.invariant.positions.busy)) c.index_mut-6.ensures.value 0 in
    omega (
      arith,
      c.self.invariant.busy c.args.w few,
      busy-room t c.args.w c.args.c c.self.invariant (edge_within t.callees c.args.c c.args.i may.0) (unreported-waits (state_of t) c.args.c c.args.i c.self.invariant.sound may.0 may.3),
    )

pub invariant_of-self : goal.invariant_of-self
invariant_of-self c =
    (through c.self.view_is c.requires.may (λ may.
    let t = table_of c.self.inside in
    let few = reporter-lt t c.args.w c.args.c c.args.i c.self.invariant may in
    let within = edge_within t.callees c.args.c c.args.i may.0 in
    let read : c.index_mut-3.result.now ≡ (state_of t).pending_edges c.args.c = get_or_read t.pending_edges _ _ (omega (arith, within, c.self.invariant.positions.pending_edges)) c.index_mut-3.ensures.value 0 in
    let shown : (state_of t).pending_edges c.args.c ≡ (state_of c.args.self.now).pending_edges c.args.c = ap (λ (s : Table). (state_of s).pending_edges c.args.c) c.self.view_is in
    subst (λ rows. Writes t (record t { edges = rows; pending_edges = set t.pending_edges c.args.c (c.index_mut-3.result.now - 1); untold = set t.untold c.args.w (c.index_mut-4.result.now - 1); stages = set t.stages c.args.c (Owed c.args.w); busy = set t.busy c.args.w (c.index_mut-6.result.now + 1) }) (Report c.args.w c.args.c c.args.i))
    (sym (rows-set (λ v. v.items) c.self.inside.edges.items c.args.c c.args.i (record c.edge-edge.result { reported = true }) c.index_mut.result.now
    (with_item c.index_mut.result.now c.args.i (record c.edge-edge.result { reported = true })) (caller-within t c.args.c c.args.i c.self.invariant.positions may.0) c.index_mut.ensures.value refl))
    (report_last-read t c.args.w c.args.c c.args.i c.index_mut-4.result.now c.index_mut-6.result.now c.index_mut-3.result.now c.edge-edge.result c.self.invariant may
    (get_or_read t.untold _ _ (omega (arith, few, c.self.invariant.positions.untold)) c.index_mut-4.ensures.value 0)
    (get_or_read t.busy _ _ (omega (arith, few, c.self.invariant.positions.busy)) c.index_mut-6.ensures.value 0)
    read (read ∙ shown ∙ c.requires.last)
    (c.edge-edge.ensures ∙ ap (λ (s : Table). (state_of s).edge c.args.c c.args.i) (sym c.self.view_is))))).0

pub returns : goal.returns
returns c =
    (through c.self.view_is c.requires.may (λ may.
    let t = table_of c.self.inside in
    let few = reporter-lt t c.args.w c.args.c c.args.i c.self.invariant may in
    let within = edge_within t.callees c.args.c c.args.i may.0 in
    let read : c.index_mut-3.result.now ≡ (state_of t).pending_edges c.args.c = get_or_read t.pending_edges _ _ (omega (arith, within, c.self.invariant.positions.pending_edges)) c.index_mut-3.ensures.value 0 in
    let shown : (state_of t).pending_edges c.args.c ≡ (state_of c.args.self.now).pending_edges c.args.c = ap (λ (s : Table). (state_of s).pending_edges c.args.c) c.self.view_is in
    subst (λ rows. Writes t (record t { edges = rows; pending_edges = set t.pending_edges c.args.c (c.index_mut-3.result.now - 1); untold = set t.untold c.args.w (c.index_mut-4.result.now - 1); stages = set t.stages c.args.c (Owed c.args.w); busy = set t.busy c.args.w (c.index_mut-6.result.now + 1) }) (Report c.args.w c.args.c c.args.i))
    (sym (rows-set (λ v. v.items) c.self.inside.edges.items c.args.c c.args.i (record c.edge-edge.result { reported = true }) c.index_mut.result.now
    (with_item c.index_mut.result.now c.args.i (record c.edge-edge.result { reported = true })) (caller-within t c.args.c c.args.i c.self.invariant.positions may.0) c.index_mut.ensures.value refl))
    (report_last-read t c.args.w c.args.c c.args.i c.index_mut-4.result.now c.index_mut-6.result.now c.index_mut-3.result.now c.edge-edge.result c.self.invariant may
    (get_or_read t.untold _ _ (omega (arith, few, c.self.invariant.positions.untold)) c.index_mut-4.ensures.value 0)
    (get_or_read t.busy _ _ (omega (arith, few, c.self.invariant.positions.busy)) c.index_mut-6.ensures.value 0)
    read (read ∙ shown ∙ c.requires.last)
    (c.edge-edge.ensures ∙ ap (λ (s : Table). (state_of s).edge c.args.c c.args.i) (sym c.self.view_is))))).1
