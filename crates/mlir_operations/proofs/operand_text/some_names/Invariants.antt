use Rattle.std.proofs.Common.{length, Bor, List, ℕ}
use Rattle.mlir_operations.specs.OperandText.{value_name}
use Rattle.mlir_syntax.proofs.Lists.{Gathering}
use Rattle.mlir_operations.proofs.operand_text.some_names.Given as goal

abbrev pub invariant-loop-name : goal.invariant-loop-name
invariant-loop-name l = Gathering (λ (name : Bor (List ℕ)). name.now) l.op (value_name l.op) l.fn.reader l.names.items l.reader

abbrev pub decreases-loop-name : goal.decreases-loop-name
decreases-loop-name l = length l.reader
