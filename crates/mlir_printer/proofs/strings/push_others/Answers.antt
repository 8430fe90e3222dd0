use Rattle.std.proofs.Common.{◌++◌, refl, arith}
use Rattle.mlir_printer.specs.Strings.{escaped_bytes}
use Rattle.mlir_printer.proofs.steps.Steps.{parts_end}
use Rattle.mlir_printer.proofs.strings.push_others.Goals as goal

pub returns : goal.returns
returns c =
    parts_end escaped_bytes c.args.text.now c.loop-byte.byte-index c.loop-byte.out (c.args.out.now ++ escaped_bytes c.args.text.now) refl
    (omega (arith, c.loop-byte-test.false)) c.loop-byte.invariant
