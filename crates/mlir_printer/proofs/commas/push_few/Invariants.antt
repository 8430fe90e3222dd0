use Rattle.std.proofs.Common.{◌≡◌, ◌++◌, drop}
use Rattle.mlir_printer.proofs.commas.push_few.Given as goal

abbrev pub invariant-loop-byte : goal.invariant-loop-byte
invariant-loop-byte l = l.out ++ drop l.byte-index l.bytes ≡ l.initial.out ++ l.bytes
