use Rattle.std.proofs.Common.{◌∙◌}
use Rattle.operation_gates.specs.OperationGateLists.{concatenation}
use Rattle.operation_gates.proofs.Taking.{adds_none}
use Rattle.operation_gates.proofs.operations.concat.Goals as goal

pub returns : goal.returns
returns c = adds_none (concatenation c.args.operands.now) c.from_vec.result (c.from_vec.ensures ∙ c.in_ok-word.ensures)
