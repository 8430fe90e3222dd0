use Rattle.std.proofs.Common.{◌≡◌, map, take}
use Rattle.ir_store.specs.Numbered.{ref_by}
use Rattle.mlir_reader.specs.Resolving.{resolve_operand}
use Rattle.mlir_operations.specs.Views.{operand_of}
use Rattle.mlir_reader.specs.Meanings.{meanings_of}
use Rattle.mlir_reader.proofs.resolving.resolved_operands.Given as goal

abbrev pub invariant-loop-operand : goal.invariant-loop-operand
invariant-loop-operand l = map (ref_by (λ i. i)) l.values.items ≡ map (resolve_operand (meanings_of l.names)) (map operand_of (take l.operand-index l.operands))
