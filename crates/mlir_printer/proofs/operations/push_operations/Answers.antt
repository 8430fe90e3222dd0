use Rattle.std.proofs.Common.{◌≡◌, ◌++◌, ◌∷◌, map, drop, ◌∙◌, ap, List}
use Rattle.ir_store.specs.BodyOps.{BodyOp}
use Rattle.ir_store.specs.Bodies.{ops_of, ids_of, ids_left, op_id, read_op}
use Rattle.ir_store.proofs.BodyLemmas.{ids_once}
use Rattle.mlir_printer.specs.Operations.{operation_lines}
use Rattle.mlir_printer.specs.Shown.{stored_shown}
use Rattle.mlir_printer.specs.Views.{names_held, value_held}
use Rattle.mlir_printer.proofs.steps.Showing.{line_step}
use Rattle.mlir_printer.proofs.names.Values.{names_few}
use Rattle.ir_store.proofs.Walks.{ops_at, through_all, walk, all_among, first_among, rest_among}
use Rattle.mlir_printer.proofs.operations.push_operations.Goals as goal

pub loop-id-init : goal.loop-id-init
loop-id-init c =
    let b = c.args.body.now in
    let left : ids_left c.into_iter-id-iterator.result ≡ map op_id (ids_of b) = ap ids_left c.into_iter-id-iterator.ensures.into_iter_gives ∙ c.ops-id-items.ensures in
    let ns = names_held c.args.names.now in
    record {
      live = all_among (ids_of b) (ids_left c.into_iter-id-iterator.result) left;
      bytes = ap (λ (os : List BodyOp). c.args.out.now ++ operation_lines (stored_shown (value_held c.args.names.now) (drop c.args.start ns) os))
          (ap (ops_at (ops_of b)) left ∙ through_all (ops_of b) (ids_once b));
    }

-- each id that is left is one of the body
pub op-op-requires : goal.op-op-requires
op-op-requires c =
    first_among (ids_of c.args.body.now) c.in-Some.id (ids_left c.loop-id.id-iterator) (ids_left c.next.new.self) c.in-Some.ensures.steps c.loop-id.invariant.live

pub loop-id-preserved : goal.loop-id-preserved
loop-id-preserved c =
    let b = c.args.body.now in
    let names = c.args.names.now in
    let o = read_op c.in-Some.id c.op-op.result in
    let before = ops_at (ops_of b) (ids_left c.loop-id.id-iterator) in
    let after = ops_at (ops_of b) (ids_left c.next.new.self) in
    let steps : before ≡ o ∷ after = walk (ops_of b) c.in-Some.id (ids_left c.loop-id.id-iterator) (ids_left c.next.new.self) o c.op-op.ensures c.in-Some.ensures.steps in
    record {
      live = rest_among (ids_of b) c.in-Some.id (ids_left c.loop-id.id-iterator) (ids_left c.next.new.self) c.in-Some.ensures.steps c.loop-id.invariant.live;
      bytes =
          line_step (value_held names) (names_held names) c.loop-id.first c.name_count.result c.saturating_add-first.result o before after c.loop-id.out c.push_operation.new.out
          (c.args.out.now ++ operation_lines (stored_shown (value_held names) (drop c.args.start (names_held names)) (ops_of b)))
          (names_few names) steps c.name_count.ensures c.saturating_add-first.ensures c.in_ok-push_operation.ensures c.loop-id.invariant.bytes;
    }
