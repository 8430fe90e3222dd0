use Rattle.std.proofs.Common.{◌≡◌, List, map, ap, ap₂, sym, ◌∙◌}
use Rattle.ir_store.specs.Bodies.{ops_of, ids_of, ids_left, op_id, read_op}
use Rattle.ir_store.specs.OperationViews.{OpParts}
use Rattle.ir_store.specs.declared.operation.Value.{Value}
use Rattle.ir_store.proofs.BodyLemmas.{ids_once}
use Rattle.ir_store.proofs.Walks.{all_among, rest_among}
use Rattle.inline_pass.proofs.ReadingModules.{reading_none, reading_ended, reading_more}
use Rattle.inline_pass.proofs.moved_ops.moved_ops.Goals as goal

pub loop-id-init : goal.loop-id-init
loop-id-init c =
    let b = c.args.body.now in
    let left : ids_left c.into_iter-id-iterator.result ≡ map op_id (ids_of b) = ap ids_left c.into_iter-id-iterator.ensures.into_iter_gives ∙ c.ops-id-items.ensures in
    record {
      live = all_among (ids_of b) (ids_left c.into_iter-id-iterator.result) left;
      reading = reading_none c.args.instance.now (ops_of b) (ids_left c.into_iter-id-iterator.result) c.new-ids.result.items c.new-copies.result.items left c.new-ids.ensures.items c.new-copies.ensures.items;
    }

pub returns-then-is_output : goal.returns-then-is_output
returns-then-is_output c =
    reading_ended c.args.instance.now (ops_of c.args.body.now) (ids_left c.loop-id.id-iterator) (ids_left c.next.new.self) c.loop-id.ids.items c.loop-id.copies.items
    c.in-Some.id (read_op c.in-Some.id c.op-op.result) c.in_ok-given.given.items (ids_once c.args.body.now) c.loop-id.invariant.reading c.in-Some.ensures.steps c.op-op.ensures
    (sym c.is_output.ensures ∙ c.if-is_output.true) c.in_ok-given.ensures.items

pub loop-id-preserved : goal.loop-id-preserved
loop-id-preserved c = record {
  live = rest_among (ids_of c.args.body.now) c.in-Some.id (ids_left c.loop-id.id-iterator) (ids_left c.next.new.self) c.in-Some.ensures.steps c.loop-id.invariant.live;
  reading = reading_more c.args.instance.now (ops_of c.args.body.now) (ids_left c.loop-id.id-iterator) (ids_left c.next.new.self) c.loop-id.ids.items c.loop-id.copies.items
      c.in-Some.id (read_op c.in-Some.id c.op-op.result) c.in_ok-renamed_op.field-0 c.push.new.self.items c.push-in-loop-id.new.self.items (ids_once c.args.body.now) c.loop-id.invariant.reading
      c.in-Some.ensures.steps c.op-op.ensures (sym c.is_output.ensures ∙ c.if-is_output.false)
      (ap₂ (λ (p : OpParts) (vs : List Value). record { id = 0; parts = p; operands = vs }) c.in_ok-renamed_op.ensures.parts c.in_ok-renamed_op.ensures.operands)
      c.in_ok-push.ensures.items c.in_ok-push-2.ensures.items;
}
