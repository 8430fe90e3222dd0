use Rattle.std.proofs.Common.{◌≡◌, ◌+◌, map, drop}
use Rattle.mlir_reader.specs.Drafts.{found_count}
use Rattle.mlir_reader.specs.Meanings.{meanings_of}
use Rattle.mlir_operations.specs.Views.{operand_of}
use Rattle.mlir_reader.proofs.draft.first_unfound.Given as goal

abbrev pub invariant-loop-index : goal.invariant-loop-index
invariant-loop-index l =
    l.from + found_count (meanings_of l.names) (drop l.from (map operand_of l.operands))
    ≡ l.index + found_count (meanings_of l.names) (drop l.index (map operand_of l.operands))
