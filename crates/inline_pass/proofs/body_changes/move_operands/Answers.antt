use Rattle.std.proofs.Common.{◌≡◌, List, map, sym, ap, subst, ◌∙◌, drop, get_or, ◌+◌}
use Rattle.std.specs.Prelude.{Contains}
use Rattle.std.proofs.lemmas.List.{at_drop_more}
use Rattle.ir_store.specs.Bodies.{ops_of, op_id, read_op}
use Rattle.ir_store.specs.BodyOps.{ids_in, operands_at}
use Rattle.ir_store.specs.declared.operation.OpId.{OpId}
use Rattle.ir_store.specs.declared.operation.Value.{Value}
use Rattle.ir_store.proofs.BodyLemmas.{ids_once}
use Rattle.ir_store.proofs.Living.{ids_stay}
use Rattle.body_edits.proofs.SpliceEdits.{one_change}
use Rattle.inline_pass.specs.MovedOps.{operands_moved}
use Rattle.inline_pass.specs.Destinations.{value_there}
use Rattle.inline_pass.proofs.body_changes.move_operands.Goals as goal

pub op-requires : goal.op-requires
op-requires c =
    subst (λ ids. Contains ids (get_or c.args.ops.now c.loop-op.op-index (op_id 0)).index) (sym c.loop-op.invariant.ids) (c.requires.live c.loop-op.op-index (op_id 0) c.loop-op-test.true)

pub set_operands-requires : goal.set_operands-requires
set_operands-requires c = record {
  live = subst (λ ids. Contains ids (get_or c.args.ops.now c.loop-op.op-index (op_id 0)).index) (sym c.loop-op.invariant.ids) (c.requires.live c.loop-op.op-index (op_id 0) c.loop-op-test.true);
}

pub loop-op-preserved : goal.loop-op-preserved
loop-op-preserved c =
    let f = value_there c.args.destinations.now in
    let id = get_or c.args.ops.now c.loop-op.op-index (op_id 0) in
    let ok = c.in_ok-set_operands.ensures.ok in
    let changed : ops_of c.set_operands.new.self ≡ operands_at id.index (map f) (ops_of c.loop-op.body) =
    ok ∙ one_change id.index (λ (vs : List Value). c.as_slice.result.now) (map f) (read_op id c.op.result) (ops_of c.loop-op.body) (ids_once c.loop-op.body id.index) c.op.ensures
    (c.as_slice.ensures.value ∙ c.in_ok-operands.ensures) in
    record {
      left = ap (operands_moved f (drop (c.loop-op.op-index + 1) c.args.ops.now)) changed
          ∙ sym (at_drop_more (λ (js : List OpId). operands_moved f js (ops_of c.loop-op.body)) c.args.ops.now c.loop-op.op-index (op_id 0) c.loop-op-test.true)
          ∙ c.loop-op.invariant.left;
      ids = ap ids_in changed ∙ ids_stay id.index (map f) (ops_of c.loop-op.body) ∙ c.loop-op.invariant.ids;
    }
