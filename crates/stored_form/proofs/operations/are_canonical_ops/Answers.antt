use Rattle.std.proofs.Common.{◌≡◌, ◌↔◌, map, sym, subst, ◌∙◌, ap, List}
use Rattle.ir_store.specs.BodyOps.{BodyOp}
use Rattle.ir_store.specs.Bodies.{ops_of, ids_of, ids_left, op_id}
use Rattle.ir_store.proofs.BodyLemmas.{ids_once}
use Rattle.ir_store.proofs.Walks.{ops_at, through_all, all_among, first_among, rest_among}
use Rattle.stored_form.proofs.Bodies.{AreCanonical, canonical_more, not_canonical, all_canonical}
use Rattle.stored_form.proofs.operations.are_canonical_ops.Goals as goal

pub loop-id-init : goal.loop-id-init
loop-id-init c =
    let b = c.args.body.now in
    let left : ids_left c.into_iter-id-iterator.result ≡ map op_id (ids_of b) = ap ids_left c.into_iter-id-iterator.ensures.into_iter_gives ∙ c.ops-id-items.ensures in
    record {
      live = all_among (ids_of b) (ids_left c.into_iter-id-iterator.result) left;
      left = subst (λ (os : List BodyOp). AreCanonical (ops_of b) ↔ AreCanonical os) (sym (ap (ops_at (ops_of b)) left ∙ through_all (ops_of b) (ids_once b))) (λ h. h, λ h. h);
    }

-- each id that is left is one of the body
pub op-requires : goal.op-requires
op-requires c =
    first_among (ids_of c.args.body.now) c.in-Some.id (ids_left c.loop-id.id-iterator) (ids_left c.next.new.self) c.in-Some.ensures.steps c.loop-id.invariant.live

pub returns-then-not-is_canonical_op : goal.returns-then-not-is_canonical_op
returns-then-not-is_canonical_op c =
    not_canonical (ops_of c.args.body.now) c.in-Some.id (ids_left c.loop-id.id-iterator) (ids_left c.next.new.self) c.op.result c.is_canonical_op.result c.op.ensures c.in-Some.ensures.steps
    c.loop-id.invariant.left c.is_canonical_op.ensures c.if-not-is_canonical_op.true

pub loop-id-preserved : goal.loop-id-preserved
loop-id-preserved c =
    record {
      live = rest_among (ids_of c.args.body.now) c.in-Some.id (ids_left c.loop-id.id-iterator) (ids_left c.next.new.self) c.in-Some.ensures.steps c.loop-id.invariant.live;
      left = canonical_more (ops_of c.args.body.now) c.in-Some.id (ids_left c.loop-id.id-iterator) (ids_left c.next.new.self) c.op.result c.is_canonical_op.result c.op.ensures c.in-Some.ensures.steps
          c.loop-id.invariant.left c.is_canonical_op.ensures c.if-not-is_canonical_op.false;
    }

pub returns : goal.returns
returns c = all_canonical (ops_of c.args.body.now) (ids_left c.loop-id.id-iterator) c.in-None.ensures.steps.0 c.loop-id.invariant.left
