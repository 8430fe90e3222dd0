use Rattle.std.proofs.Common.{map, take}
use Rattle.ir_store.specs.Numbered.{ref_by}
use Rattle.mlir_reader.specs.Held.{AreSettled}
use Rattle.mlir_reader.specs.Meanings.{meanings_of}
use Rattle.mlir_operations.specs.Views.{operand_of}
use Rattle.mlir_reader.proofs.draft.settled_operands.Given as goal

abbrev pub invariant-loop-operand : goal.invariant-loop-operand
invariant-loop-operand l = AreSettled (meanings_of l.names) (map operand_of (take l.operand-index l.operands)) (map (ref_by (λ i. i)) l.values.items)
