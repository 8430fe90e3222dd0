use Rattle.std.proofs.Common.{◌≡◌, ◌++◌, drop}
use Rattle.hw_model.specs.Value.{concat_words}
use Rattle.operation_values.proofs.values.concat_words.Given as goal

abbrev pub invariant-loop-operand : goal.invariant-loop-operand
invariant-loop-operand l = l.word ++ concat_words (drop l.operand-index l.operands) ≡ concat_words l.operands
