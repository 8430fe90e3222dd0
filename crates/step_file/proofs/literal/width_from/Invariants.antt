use Rattle.std.proofs.Common.{◌≡◌, ◌≤◌, ◌^◌, length}
use Rattle.step_file.specs.Digits.{width_from}
use Rattle.step_file.proofs.literal.width_from.Given as goal

abbrev pub invariant-loop-byte : goal.invariant-loop-byte
invariant-loop-byte l = (width_from l.width l.rest ≡ width_from 0 l.digits) × (l.width ≤ 2 ^ 32)

abbrev pub decreases-loop-byte : goal.decreases-loop-byte
decreases-loop-byte l = length l.rest
