use Rattle.std.proofs.Common.{◌≡◌, ◌≤◌, length, drop}
use Rattle.hw_model.specs.FamilyViews.{variadic_of}
use Rattle.hw_model.specs.Value.{variadic_value}
use Rattle.hw_model.proofs.integer_values.variadic_value.Given as goal

abbrev pub invariant-loop-left : goal.invariant-loop-left
invariant-loop-left l = record { within : l.left ≤ length l.operands; value : l.all ≡ variadic_value (variadic_of l.op) l.width (drop l.left l.operands) }

abbrev pub decreases-loop-left : goal.decreases-loop-left
decreases-loop-left l = l.left
