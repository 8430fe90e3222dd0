-- Fewer than nine digits stand for a number below 10^8.
use Rattle.std.proofs.Common.{arith}
use Rattle.mlir_reader.proofs.PlainNumbers.{fits_nine}
use Rattle.mlir_reader.proofs.names.decimal.Goals as goal

pub overflow_mul-number : goal.overflow_mul-number
overflow_mul-number c =
    let few = fits_nine c.loop-byte.number c.loop-byte.byte-index c.loop-byte.invariant.small (omega (arith, c.requires, c.loop-byte-test.true)) in
    omega (arith, few)

pub overflow_add-number : goal.overflow_add-number
overflow_add-number c =
    let few = fits_nine c.loop-byte.number c.loop-byte.byte-index c.loop-byte.invariant.small (omega (arith, c.requires, c.loop-byte-test.true)) in
    omega (arith, few)
