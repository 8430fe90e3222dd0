use Rattle.std.proofs.Common.{length}
use Rattle.mlir_operations.specs.OperandText.{operand_text}
use Rattle.mlir_operations.specs.Views.{operand_of}
use Rattle.mlir_operations.proofs.Joining.{Onto}
use Rattle.mlir_operations.proofs.element_text.some_operands.Given as goal

abbrev pub invariant-loop-operand : goal.invariant-loop-operand
invariant-loop-operand l = Onto operand_of l.op (operand_text l.op) l.fn.reader l.fn.operands.items l.operands.items l.reader

abbrev pub decreases-loop-operand : goal.decreases-loop-operand
decreases-loop-operand l = length l.reader
