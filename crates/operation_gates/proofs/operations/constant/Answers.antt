use Rattle.std.proofs.Common.{◌∙◌}
use Rattle.bits_core.specs.Word.{bits_of_ℤ}
use Rattle.hw_model.specs.KindViews.{integer_of}
use Rattle.operation_gates.specs.OperationGateLists.{known_word}
use Rattle.operation_gates.proofs.Taking.{adds_none}
use Rattle.operation_gates.proofs.operations.constant.Goals as goal

pub returns : goal.returns
returns c = adds_none (known_word (bits_of_ℤ c.args.width (integer_of c.args.value))) c.from_vec.result (c.from_vec.ensures ∙ c.in_ok-word.ensures)
