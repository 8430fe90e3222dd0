use Rattle.std.proofs.Common.{◌≡◌, ◌++◌, drop}
use Rattle.std.specs.Prelude.{All, Contains}
use Rattle.ir_store.specs.declared.operation.OpId.{OpId}
use Rattle.ir_store.specs.Bodies.{ids_of, ops_of, ids_left}
use Rattle.mlir_printer.specs.Operations.{operation_lines}
use Rattle.mlir_printer.specs.Shown.{stored_shown}
use Rattle.mlir_printer.specs.Views.{names_held, value_held}
use Rattle.ir_store.proofs.Walks.{ops_at}
use Rattle.mlir_printer.proofs.operations.push_operations.Given as goal

abbrev pub invariant-loop-id : goal.invariant-loop-id
invariant-loop-id l = record {
  live : All (λ (i : OpId). Contains (ids_of l.body) i.index) (ids_left l.id-iterator);
  bytes : l.out ++ operation_lines (stored_shown (value_held l.names) (drop l.first (names_held l.names)) (ops_at (ops_of l.body) (ids_left l.id-iterator)))
      ≡ l.initial.out ++ operation_lines (stored_shown (value_held l.names) (drop l.start (names_held l.names)) (ops_of l.body));
}
