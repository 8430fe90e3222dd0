use Rattle.mlir_syntax.proofs.Digits.{IsPrefix}
use Rattle.mlir_syntax.proofs.numerals.number_in.Given as goal

abbrev pub invariant-loop-digit : goal.invariant-loop-digit
invariant-loop-digit l = IsPrefix l.base l.digits l.number l.digit-index
