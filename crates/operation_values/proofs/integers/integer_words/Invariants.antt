use Rattle.std.proofs.Common.{◌≡◌, take, All}
use Rattle.operation_values.specs.Suits.{IsInteger}
use Rattle.operation_values.proofs.integers.integer_words.Given as goal

abbrev pub invariant-loop-operand : goal.invariant-loop-operand
invariant-loop-operand l = record {
  words : l.words.items ≡ take l.operand-index l.operands;
  integers : All IsInteger (take l.operand-index l.operands);
}
