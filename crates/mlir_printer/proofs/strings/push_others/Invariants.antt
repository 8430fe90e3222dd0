use Rattle.std.proofs.Common.{◌≡◌, ◌++◌, drop}
use Rattle.mlir_printer.specs.Strings.{escaped_bytes}
use Rattle.mlir_printer.proofs.strings.push_others.Given as goal

abbrev pub invariant-loop-byte : goal.invariant-loop-byte
invariant-loop-byte l = l.out ++ escaped_bytes (drop l.byte-index l.text) ≡ l.initial.out ++ escaped_bytes l.text
