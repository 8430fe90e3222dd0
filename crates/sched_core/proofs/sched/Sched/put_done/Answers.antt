use Rattle.std.proofs.Common.{◌≡◌, get_or, arith}
use Rattle.std.proofs.lemmas.List.{get_or_read}
use Rattle.sched_core.specs.declared.event.Event.TheVariants.{PutDone}
use Rattle.sched_core.specs.Table.{state_of}
use Rattle.sched_core.specs.Views.{table_of}
use Rattle.sched_core.proofs.StageWrites.{put_done-writes, busy-positive, worker-lt, module-lt}
use Rattle.sched_core.proofs.Openings.{through, may_by, untold-fits}
use Rattle.sched_core.proofs.sched.Sched.put_done.Goals as goal

pub index_mut-requires-2 : goal.index_mut-requires-2
index_mut-requires-2 c =
    let t = table_of c.self.inside in
    let may = may_by (PutDone c.args.w c.args.m) c.self.view_is c.requires in
    omega (arith, worker-lt t c.args.w c.args.m c.self.invariant may, c.self.invariant.positions.busy)

pub overflow_sub-index_mut : goal.overflow_sub-index_mut
overflow_sub-index_mut c =
    let t = table_of c.self.inside in
    let may = may_by (PutDone c.args.w c.args.m) c.self.view_is c.requires in
    let few = worker-lt t c.args.w c.args.m c.self.invariant may in
    let read : c.index_mut-2.result.now ≡ get_or t.busy c.args.w 0 = get_or_read t.busy _ _ (omega (arith, few, c.self.invariant.positions.busy)) c.index_mut-2.ensures.value 0 in
    omega (arith, c.self.invariant.busy c.args.w few, busy-positive (state_of t) c.args.w c.args.m (module-lt t c.args.w c.args.m c.self.invariant may) may.0)

pub index_mut-requires-3 : goal.index_mut-requires-3
index_mut-requires-3 c =
    let t = table_of c.self.inside in
    let may = may_by (PutDone c.args.w c.args.m) c.self.view_is c.requires in
    omega (arith, worker-lt t c.args.w c.args.m c.self.invariant may, c.self.invariant.positions.untold)

pub overflow_add-index_mut : goal.overflow_add-index_mut
overflow_add-index_mut c =
    let t = table_of c.self.inside in
    let may = may_by (PutDone c.args.w c.args.m) c.self.view_is c.requires in
    let few = worker-lt t c.args.w c.args.m c.self.invariant may in
    let is_module = module-lt t c.args.w c.args.m c.self.invariant may in
    let old : c.index_mut-3.result.now ≡ get_or t.untold c.args.w 0 = get_or_read t.untold _ _ (omega (arith, few, c.self.invariant.positions.untold)) c.index_mut-3.ensures.value 0 in
    let more : c.index.result.now ≡ get_or t.uses c.args.m 0 = get_or_read t.uses _ _ (omega (arith, is_module, c.self.invariant.positions.uses)) c.index.ensures 0 in
    omega (arith, c.self.invariant.untold c.args.w few, c.self.invariant.uses c.args.m is_module, untold-fits t c.args.w c.args.m c.self.invariant may)

pub invariant_of-self : goal.invariant_of-self
invariant_of-self c =
    (through c.self.view_is c.requires (λ may.
    let t = table_of c.self.inside in
    let few = worker-lt t c.args.w c.args.m c.self.invariant may in
    let is_module = module-lt t c.args.w c.args.m c.self.invariant may in
    put_done-writes t c.args.w c.args.m c.index_mut-2.result.now c.index_mut-3.result.now c.index.result.now c.self.invariant may
    (get_or_read t.busy _ _ (omega (arith, few, c.self.invariant.positions.busy)) c.index_mut-2.ensures.value 0)
    (get_or_read t.untold _ _ (omega (arith, few, c.self.invariant.positions.untold)) c.index_mut-3.ensures.value 0)
    (get_or_read t.uses _ _ (omega (arith, is_module, c.self.invariant.positions.uses)) c.index.ensures 0))).0

pub returns : goal.returns
returns c =
    (through c.self.view_is c.requires (λ may.
    let t = table_of c.self.inside in
    let few = worker-lt t c.args.w c.args.m c.self.invariant may in
    let is_module = module-lt t c.args.w c.args.m c.self.invariant may in
    put_done-writes t c.args.w c.args.m c.index_mut-2.result.now c.index_mut-3.result.now c.index.result.now c.self.invariant may
    (get_or_read t.busy _ _ (omega (arith, few, c.self.invariant.positions.busy)) c.index_mut-2.ensures.value 0)
    (get_or_read t.untold _ _ (omega (arith, few, c.self.invariant.positions.untold)) c.index_mut-3.ensures.value 0)
    (get_or_read t.uses _ _ (omega (arith, is_module, c.self.invariant.positions.uses)) c.index.ensures 0))).1
