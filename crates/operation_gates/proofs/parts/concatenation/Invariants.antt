use Rattle.std.proofs.Common.{◌≡◌, ◌++◌, drop}
use Rattle.operation_gates.specs.OperationGateLists.{concatenation}
use Rattle.operation_gates.proofs.parts.concatenation.Given as goal

abbrev pub invariant-loop-word : goal.invariant-loop-word
invariant-loop-word l = l.made.items ++ concatenation (drop l.word-index l.words) ≡ concatenation l.words
