use Rattle.std.proofs.Common.{◌≡◌, map, ◌∙◌, ap, refl}
use Rattle.ir_store.specs.Bodies.{ops_of, ids_of, ids_left, op_id, read_op}
use Rattle.ir_store.proofs.BodyLemmas.{ids_once}
use Rattle.ir_store.proofs.Walks.{through_all, all_among, first_among, rest_among}
use Rattle.op_verifier.proofs.EntryWalks.{walk_step, settled_step}
use Rattle.op_verifier.proofs.entries.Entry.all.Goals as goal

pub op-requires : goal.op-requires
op-requires c =
    first_among (ids_of c.args.body.now) c.in-Some.id (ids_left c.loop-id.id-iterator) (ids_left c.next.new.self) c.in-Some.ensures.steps c.loop-id.invariant.live

pub loop-id-init : goal.loop-id-init
loop-id-init c =
    let b = c.args.body.now in
    let left : ids_left c.into_iter-id-iterator.result ≡ map op_id (ids_of b) = ap ids_left c.into_iter-id-iterator.ensures.into_iter_gives ∙ c.ops-id-items.ensures in
    record {
      live = all_among (ids_of b) (ids_left c.into_iter-id-iterator.result) left;
      ops = rw (c.in_ok-entries.ensures.items, left) (through_all (ops_of b) (ids_once b));
      settled = rw c.in_ok-entries.ensures.items refl;
    }

pub loop-id-preserved : goal.loop-id-preserved
loop-id-preserved c =
    let b = c.args.body.now in
    let o = read_op c.in-Some.id c.op.result in
    record {
      live = rest_among (ids_of b) c.in-Some.id (ids_left c.loop-id.id-iterator) (ids_left c.next.new.self) c.in-Some.ensures.steps c.loop-id.invariant.live;
      ops = walk_step (ops_of b) c.loop-id.entries.items c.push.new.self.items c.in_ok-new.field-0 c.in-Some.id (ids_left c.loop-id.id-iterator) (ids_left c.next.new.self) o
          c.in_ok-push.ensures.items c.in_ok-new.ensures.op c.op.ensures c.in-Some.ensures.steps c.loop-id.invariant.ops;
      settled = settled_step c.loop-id.entries.items c.push.new.self.items c.in_ok-new.field-0 o c.in_ok-push.ensures.items c.in_ok-new.ensures.op c.in_ok-new.ensures.settled c.loop-id.invariant.settled;
    }
