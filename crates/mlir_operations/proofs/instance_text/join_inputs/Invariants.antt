use Rattle.std.proofs.Common.{◌≡◌, ◌++◌, map, length}
use Rattle.std.specs.Vec.Iter.{into_iter_items, into_iter_len}
use Rattle.ir_store.specs.OperationViews.{types_in}
use Rattle.mlir_operations.specs.ElementHeads.{joined_of}
use Rattle.mlir_operations.specs.Views.{operand_of}
use Rattle.mlir_operations.proofs.instance_text.join_inputs.Given as goal

abbrev pub invariant-loop-input : goal.invariant-loop-input
invariant-loop-input l =
    (l.yielded ++ into_iter_items l.input-iterator ≡ into_iter_items l.initial.input-iterator)
    × (l.names.items ≡ map (λ (j : _). j.port) (map joined_of l.yielded))
    × (map operand_of l.gathered.operands.items ≡ map operand_of l.fn.gathered.operands.items ++ map (λ (j : _). j.operand) (map joined_of l.yielded))
    × (types_in l.gathered.types ≡ types_in l.fn.gathered.types ++ map (λ (j : _). j.type) (map joined_of l.yielded))
    × (into_iter_len l.input-iterator ≡ length (into_iter_items l.input-iterator))
