use Rattle.std.proofs.Common.{◌≡◌, ◌≤◌, length, drop}
use Rattle.hw_model.specs.Value.{concat_words}
use Rattle.hw_model.proofs.integer_values.concat_value.Given as goal

abbrev pub invariant-loop-left : goal.invariant-loop-left
invariant-loop-left l = record { within : l.left ≤ length l.operands; value : l.all ≡ concat_words (drop l.left l.operands) }

abbrev pub decreases-loop-left : goal.decreases-loop-left
decreases-loop-left l = l.left
