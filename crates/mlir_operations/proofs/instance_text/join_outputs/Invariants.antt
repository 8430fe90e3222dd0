use Rattle.std.proofs.Common.{◌≡◌, ◌++◌, map, length}
use Rattle.std.specs.Vec.Iter.{into_iter_items, into_iter_len}
use Rattle.hw_model.specs.TypeViews.{field_of}
use Rattle.ir_store.specs.OperationViews.{types_in}
use Rattle.mlir_operations.proofs.instance_text.join_outputs.Given as goal

abbrev pub invariant-loop-output : goal.invariant-loop-output
invariant-loop-output l =
    (l.yielded ++ into_iter_items l.output-iterator ≡ into_iter_items l.initial.output-iterator)
    × (l.names.items ≡ map (λ (t : _). t.name) (map field_of l.yielded))
    × (l.gathered.operands.items ≡ l.fn.gathered.operands.items)
    × (types_in l.gathered.types ≡ types_in l.fn.gathered.types ++ map (λ (t : _). t.type) (map field_of l.yielded))
    × (into_iter_len l.output-iterator ≡ length (into_iter_items l.output-iterator))
