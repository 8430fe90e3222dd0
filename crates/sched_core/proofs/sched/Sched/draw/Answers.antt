use Rattle.std.proofs.Common.{◌≡◌, get_or, arith}
use Rattle.std.proofs.lemmas.List.{get_or_read}
use Rattle.sched_core.specs.declared.event.Event.TheVariants.{Claim}
use Rattle.sched_core.specs.Table.{state_of}
use Rattle.sched_core.specs.Views.{table_of}
use Rattle.sched_core.proofs.LeafNumbers.{leaf-lt}
use Rattle.sched_core.proofs.Draws.{next_leaf-waits}
use Rattle.sched_core.proofs.Tested.{there-lt}
use Rattle.sched_core.proofs.Shapes.{leaf-le}
use Rattle.sched_core.proofs.StageWrites.{draw-writes, busy-room}
use Rattle.sched_core.proofs.Openings.{through, may_by, drawn_by}
use Rattle.sched_core.proofs.sched.Sched.draw.Goals as goal

pub index_mut-requires : goal.index_mut-requires
index_mut-requires c =
    let t = table_of c.self.inside in
    omega (arith, leaf-lt t.callees t.leaf c.args.m (drawn_by c.self.view_is c.requires.turn), c.self.invariant.positions.stages)

pub overflow_add-index_mut : goal.overflow_add-index_mut
overflow_add-index_mut c =
    let t = table_of c.self.inside in
    let turn = drawn_by c.self.view_is c.requires.turn in
    let few = there-lt t c.args.w c.self.invariant (may_by (Claim c.args.w) c.self.view_is c.requires.may).0 in
    let old : c.index_mut-2.result.now ≡ get_or t.busy c.args.w 0 = get_or_read t.busy _ _ (omega (arith, few, c.self.invariant.positions.busy)) c.index_mut-2.ensures.value 0 in
    omega (
      arith,
      c.self.invariant.busy c.args.w few,
      busy-room t c.args.w c.args.m c.self.invariant (leaf-lt t.callees t.leaf c.args.m turn) (next_leaf-waits (state_of t) c.args.m c.self.invariant.sound turn),
    )

pub overflow_add-self : goal.overflow_add-self
overflow_add-self c =
    let t = table_of c.self.inside in
    omega (arith, leaf-le t c.self.invariant, c.self.invariant.positions.modules)

pub invariant_of-self : goal.invariant_of-self
invariant_of-self c =
    (through c.self.view_is c.requires.may (λ may.
    let t = table_of c.self.inside in
    let few = there-lt t c.args.w c.self.invariant may.0 in
    draw-writes t c.args.w c.args.m c.index_mut-2.result.now c.self.invariant may (drawn_by c.self.view_is c.requires.turn)
    (get_or_read t.busy _ _ (omega (arith, few, c.self.invariant.positions.busy)) c.index_mut-2.ensures.value 0) few)).0

pub returns : goal.returns
returns c =
    (through c.self.view_is c.requires.may (λ may.
    let t = table_of c.self.inside in
    let few = there-lt t c.args.w c.self.invariant may.0 in
    draw-writes t c.args.w c.args.m c.index_mut-2.result.now c.self.invariant may (drawn_by c.self.view_is c.requires.turn)
    (get_or_read t.busy _ _ (omega (arith, few, c.self.invariant.positions.busy)) c.index_mut-2.ensures.value 0) few)).1
