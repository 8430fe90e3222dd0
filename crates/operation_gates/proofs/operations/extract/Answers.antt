use Rattle.std.proofs.Common.{ap, ◌∙◌}
use Rattle.operation_gates.specs.OperationGateLists.{part}
use Rattle.operation_gates.proofs.Taking.{adds_of_one}
use Rattle.operation_gates.proofs.operations.extract.Goals as goal

pub returns : goal.returns
returns c =
    adds_of_one (part c.args.low c.args.width) c.args.operands.now c.one-a.result.now c.from_vec.result c.one-a.ensures
    (c.from_vec.ensures ∙ c.in_ok-word.ensures ∙ ap (part c.args.low c.args.width) c.as_slice.ensures)
