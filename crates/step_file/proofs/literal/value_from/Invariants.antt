use Rattle.std.proofs.Common.{◌≡◌, ◌≤◌, ◌+◌, ◌*◌, ◌^◌, length}
use Rattle.step_file.specs.Digits.{no_value, value_from}
use Rattle.step_file.proofs.literal.value_from.Given as goal

abbrev pub invariant-loop-byte : goal.invariant-loop-byte
invariant-loop-byte l = (value_from l.value l.rest ≡ value_from no_value l.digits) × (l.value.bits + 4 * length l.rest ≤ 2 ^ 28)

abbrev pub decreases-loop-byte : goal.decreases-loop-byte
decreases-loop-byte l = length l.rest
