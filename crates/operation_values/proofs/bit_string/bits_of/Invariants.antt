use Rattle.std.proofs.Common.{◌≡◌, ◌++◌, take}
use Rattle.operation_values.proofs.bit_string.bits_of.Given as goal

abbrev pub invariant-loop-bit : goal.invariant-loop-bit
invariant-loop-bit l = l.word ≡ take 1 l.bits ++ take l.bit-index l.bit-items
