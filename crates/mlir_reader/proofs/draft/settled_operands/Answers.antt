use Rattle.std.proofs.Common.{map, ap, ◌∙◌}
use Rattle.std.proofs.lemmas.List.{take_all}
use Rattle.mlir_reader.specs.Resolving.{resolve_operand}
use Rattle.mlir_operations.specs.Views.{operand_of}
use Rattle.mlir_reader.proofs.draft.settled_operands.Goals as goal

pub returns : goal.returns
returns c later k =
    c.loop-operand.invariant later k
    ∙ ap (λ os. map (resolve_operand later) (map operand_of os)) (take_all c.loop-operand.operand-index c.args.operands.now c.loop-operand-test.false)
