use Rattle.std.proofs.Common.{ap, ◌∙◌, ◌/◌, length}
use Rattle.hw_model.specs.Types.{list_copies}
use Rattle.operation_gates.proofs.Taking.{adds_of_one}
use Rattle.operation_gates.proofs.operations.replication.Goals as goal

pub returns : goal.returns
returns c =
    adds_of_one (λ x. list_copies (c.args.width / length x) x) c.args.operands.now c.one-a.result.now c.from_vec.result c.one-a.ensures
    (c.from_vec.ensures ∙ c.in_ok-word.ensures ∙ ap (λ x. list_copies (c.args.width / length x) x) c.as_slice.ensures)
