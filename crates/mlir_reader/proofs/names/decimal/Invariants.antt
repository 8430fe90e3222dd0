use Rattle.mlir_reader.proofs.PlainNumbers.{IsDecimalPrefix}
use Rattle.mlir_reader.proofs.names.decimal.Given as goal

abbrev pub invariant-loop-byte : goal.invariant-loop-byte
invariant-loop-byte l = IsDecimalPrefix l.bytes l.number l.byte-index
