use Rattle.std.proofs.Common.{sym, ap, subst, ◌∙◌, refl}
use Rattle.std.specs.Vec.{with_item}
use Rattle.sched_core.specs.declared.parts.Fill.TheVariants.{Full}
use Rattle.sched_core.specs.declared.event.Event.TheVariants.{PutEdge}
use Rattle.sched_core.specs.Table.{Table, state_of}
use Rattle.sched_core.specs.Views.{table_of}
use Rattle.sched_core.proofs.Shapes.{Writes}
use Rattle.sched_core.proofs.EdgeWrites.{caller-within, put_edge-writes}
use Rattle.sched_core.proofs.Openings.{through, rows-set}
use Rattle.sched_core.proofs.sched.Sched.put_edge.Goals as goal

pub invariant_of-self : goal.invariant_of-self
invariant_of-self c =
    (through c.self.view_is c.requires (λ may.
    let t = table_of c.self.inside in
    subst (λ rows. Writes t (record t { edges = rows }) (PutEdge c.args.w c.args.c c.args.i))
    (sym (rows-set (λ v. v.items) c.self.inside.edges.items c.args.c c.args.i (record c.edge-edge.result { fill = Full }) c.index_mut.result.now
    (with_item c.index_mut.result.now c.args.i (record c.edge-edge.result { fill = Full })) (caller-within t c.args.c c.args.i c.self.invariant.positions may.0) c.index_mut.ensures.value refl))
    (put_edge-writes t c.args.w c.args.c c.args.i c.edge-edge.result c.self.invariant may
    (c.edge-edge.ensures ∙ ap (λ (s : Table). (state_of s).edge c.args.c c.args.i) (sym c.self.view_is))))).0

pub returns : goal.returns
returns c =
    (through c.self.view_is c.requires (λ may.
    let t = table_of c.self.inside in
    subst (λ rows. Writes t (record t { edges = rows }) (PutEdge c.args.w c.args.c c.args.i))
    (sym (rows-set (λ v. v.items) c.self.inside.edges.items c.args.c c.args.i (record c.edge-edge.result { fill = Full }) c.index_mut.result.now
    (with_item c.index_mut.result.now c.args.i (record c.edge-edge.result { fill = Full })) (caller-within t c.args.c c.args.i c.self.invariant.positions may.0) c.index_mut.ensures.value refl))
    (put_edge-writes t c.args.w c.args.c c.args.i c.edge-edge.result c.self.invariant may
    (c.edge-edge.ensures ∙ ap (λ (s : Table). (state_of s).edge c.args.c c.args.i) (sym c.self.view_is))))).1
