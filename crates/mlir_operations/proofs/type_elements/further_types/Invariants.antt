use Rattle.std.proofs.Common.{◌≡◌, ◌-◌, ◌≤◌, length}
use Rattle.ir_store.specs.OperationViews.{types_in}
use Rattle.mlir_operations.specs.ElementText.{further_types}
use Rattle.mlir_operations.proofs.Joining.{following}
use Rattle.mlir_operations.proofs.type_elements.further_types.Given as goal

abbrev pub invariant-loop : goal.invariant-loop
invariant-loop l =
    (following (types_in l.fn.types) (further_types l.op l.fn.count l.fn.reader) ≡ following (types_in l.types) (further_types l.op (l.fn.count - l.counter) l.reader))
    × (length l.reader ≤ length l.fn.reader)
