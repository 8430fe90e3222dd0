use Rattle.std.proofs.Common.{◌≡◌, ◌++◌}
use Rattle.aiger_export.specs.BitNames.{bit_names}
use Rattle.aiger_export.proofs.bit_names.push_bits.Given as goal

abbrev pub invariant-loop-left : goal.invariant-loop-left
invariant-loop-left l = l.bits.items ++ bit_names l.name l.left ≡ l.fn.bits.items ++ bit_names l.name l.width

abbrev pub decreases-loop-left : goal.decreases-loop-left
decreases-loop-left l = l.left
