use Rattle.std.proofs.Common.{◌≡◌, ◌-◌, ◌/◌, ◌^◌, ◌≤◌, length, drop}
use Rattle.bits_core.specs.Word.{bits}
use Rattle.operation_gates.specs.OperationGateLists.{known_word}
use Rattle.operation_gates.proofs.known_words.number_bits.Given as goal

abbrev pub invariant-loop-i : goal.invariant-loop-i
invariant-loop-i l = record {
  within : l.i ≤ l.width;
  room : length l.made.items ≡ l.width;
  rest : l.left ≡ l.value / 2 ^ (l.width - l.i);
  low : drop l.i l.made.items ≡ known_word (bits (l.width - l.i) l.value);
}

abbrev pub decreases-loop-i : goal.decreases-loop-i
decreases-loop-i l = l.i
