use Rattle.std.proofs.Common.{◌∙◌}
use Rattle.operation_gates.proofs.Taking.{adds_of_one}
use Rattle.operation_gates.proofs.operations.wire.Goals as goal

pub returns : goal.returns
returns c =
    adds_of_one (λ x. x) c.args.operands.now c.one-a.result.now c.from_vec.result c.one-a.ensures
    (c.from_vec.ensures ∙ c.in_ok-word.ensures.items ∙ c.as_slice.ensures)
