use Rattle.std.proofs.Common.{◌≡◌, ◌≤◌, ◌++◌}
use Rattle.bits_core.specs.Word.{bits, number}
use Rattle.operation_values.proofs.bit_string.BitString.from_bits.Given as goal

abbrev pub invariant-loop-left : goal.invariant-loop-left
invariant-loop-left l = record { within : l.left ≤ 128; split : l.bits.items ++ bits l.left (number l.word) ≡ l.word }

abbrev pub decreases-loop-left : goal.decreases-loop-left
decreases-loop-left l = l.left
