use Rattle.std.proofs.Common.{map, length, ap, sym, ◌∙◌, arith, rules}
use Rattle.std.proofs.lemmas.List.{length_push, length-map, nil_from_length}
use Rattle.ir_store.specs.Bodies.{ops_of}
use Rattle.ir_store.proofs.BodyLemmas.{ids_once}
use Rattle.inline_pass.specs.MovedOps.{without_id}
use Rattle.inline_pass.proofs.PuttingBefore.{putting_none, putting_there, putting_more, putting_done, putting_few}
use Rattle.inline_pass.proofs.body_changes.put_all_before.Goals as goal

pub loop-op-init : goal.loop-op-init
loop-op-init c = record {
  putting = putting_none c.args.before (map without_id c.args.ops.items) (ops_of c.args.body.now) c.new-ids.result.items (map without_id c.into_iter-op-iterator.result.rest.items)
      c.new-ids.ensures.items (ap (map without_id) (search rules));
  few = search rules;
  left = search rules;
}

pub add_op-requires-clause-live : goal.add_op-requires-clause-live
add_op-requires-clause-live c =
    putting_there c.args.before (map without_id c.args.ops.items) (ops_of c.args.body.now) (ops_of c.loop-op.body) c.loop-op.ids.items (map without_id c.loop-op.op-iterator.rest.items)
    c.loop-op.invariant.putting c.requires

pub loop-op-preserved : goal.loop-op-preserved
loop-op-preserved c = record {
  putting = putting_more c.args.before (map without_id c.args.ops.items) (ops_of c.args.body.now) (ops_of c.loop-op.body) (ops_of c.add_op.new.self) c.loop-op.ids.items
      (map without_id c.loop-op.op-iterator.rest.items) (map without_id c.next.new.self.rest.items) c.in-Some.op c.in_ok-add_op.field-0 c.push.new.self.items (ids_once c.loop-op.body) c.requires
      c.loop-op.invariant.putting (ap (map without_id) c.in-Some.ensures.steps.0) c.in_ok-add_op.ensures.ok c.in_ok-push.ensures.items;
  few =
      let most = putting_few c.args.before (map without_id c.args.ops.items) (ops_of c.args.body.now) (ops_of c.loop-op.body) c.loop-op.ids.items (map without_id c.loop-op.op-iterator.rest.items)
      c.loop-op.invariant.putting in
      let more = ap length c.in_ok-push.ensures.items ∙ length_push c.loop-op.ids.items c.in_ok-add_op.field-0 in
      omega (arith, most, more, c.op_count.ensures, c.if-op_count.false);
  left = search rules;
}

pub returns-clause-many : goal.returns-clause-many
returns-clause-many c =
    (putting_done c.args.before (map without_id c.args.ops.items) (ops_of c.args.body.now) (ops_of c.loop-op.body) c.loop-op.ids.items (map without_id c.loop-op.op-iterator.rest.items)
    c.loop-op.invariant.putting (ap (map without_id) (nil_from_length c.loop-op.op-iterator.rest.items (sym c.loop-op.invariant.left ∙ c.in-None.ensures.steps.0)))).0
    ∙ length-map c.args.ops.items without_id

pub returns-clause-put : goal.returns-clause-put
returns-clause-put c =
    (putting_done c.args.before (map without_id c.args.ops.items) (ops_of c.args.body.now) (ops_of c.loop-op.body) c.loop-op.ids.items (map without_id c.loop-op.op-iterator.rest.items)
    c.loop-op.invariant.putting (ap (map without_id) (nil_from_length c.loop-op.op-iterator.rest.items (sym c.loop-op.invariant.left ∙ c.in-None.ensures.steps.0)))).1
