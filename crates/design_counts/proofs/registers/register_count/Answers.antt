use Rattle.std.proofs.Common.{◌≡◌, map, sym, ◌∙◌, ap}
use Rattle.ir_store.specs.Bodies.{ops_of, ids_of, ids_left, op_id, read_op}
use Rattle.ir_store.proofs.BodyLemmas.{ids_once}
use Rattle.ir_store.proofs.Walks.{all_among, first_among, rest_among}
use Rattle.design_counts.proofs.RegisterWalks.{left_all, left_on, left_off, left_counted, left_none}
use Rattle.design_counts.proofs.registers.register_count.Goals as goal

pub loop-id-init : goal.loop-id-init
loop-id-init c =
    let b = c.args.body.now in
    let left : ids_left c.into_iter-id-iterator.result ≡ map op_id (ids_of b) = ap ids_left c.into_iter-id-iterator.ensures.into_iter_gives ∙ c.ops-id-items.ensures in
    record {
      live = all_among (ids_of b) (ids_left c.into_iter-id-iterator.result) left;
      left = left_all (ops_of b) (ids_left c.into_iter-id-iterator.result) c.op_count-count.result (ids_once b) left c.op_count-count.ensures;
    }

-- each id that is left is one of the body
pub op-requires : goal.op-requires
op-requires c = first_among (ids_of c.args.body.now) c.in-Some.id (ids_left c.loop-id.id-iterator) (ids_left c.next.new.self) c.in-Some.ensures.steps c.loop-id.invariant.live

pub overflow_sub-count : goal.overflow_sub-count
overflow_sub-count c =
    left_counted (ops_of c.args.body.now) c.in-Some.id (ids_left c.loop-id.id-iterator) (ids_left c.next.new.self) (read_op c.in-Some.id c.op.result) c.loop-id.count
    c.op.ensures c.in-Some.ensures.steps (sym c.is_register.ensures ∙ c.if-not-is_register.true) c.loop-id.invariant.left

pub loop-id-preserved-then-not-is_register : goal.loop-id-preserved-then-not-is_register
loop-id-preserved-then-not-is_register c = record {
  live = rest_among (ids_of c.args.body.now) c.in-Some.id (ids_left c.loop-id.id-iterator) (ids_left c.next.new.self) c.in-Some.ensures.steps c.loop-id.invariant.live;
  left =
      left_off (ops_of c.args.body.now) c.in-Some.id (ids_left c.loop-id.id-iterator) (ids_left c.next.new.self) (read_op c.in-Some.id c.op.result) c.loop-id.count
      c.op.ensures c.in-Some.ensures.steps (sym c.is_register.ensures ∙ c.if-not-is_register.true) c.loop-id.invariant.left;
}

pub loop-id-preserved : goal.loop-id-preserved
loop-id-preserved c = record {
  live = rest_among (ids_of c.args.body.now) c.in-Some.id (ids_left c.loop-id.id-iterator) (ids_left c.next.new.self) c.in-Some.ensures.steps c.loop-id.invariant.live;
  left =
      left_on (ops_of c.args.body.now) c.in-Some.id (ids_left c.loop-id.id-iterator) (ids_left c.next.new.self) (read_op c.in-Some.id c.op.result) c.loop-id.count
      c.op.ensures c.in-Some.ensures.steps (sym c.is_register.ensures ∙ c.if-not-is_register.false) c.loop-id.invariant.left;
}

pub returns : goal.returns
returns c = left_none (ops_of c.args.body.now) (ids_left c.loop-id.id-iterator) c.loop-id.count c.in-None.ensures.steps.0 c.loop-id.invariant.left
