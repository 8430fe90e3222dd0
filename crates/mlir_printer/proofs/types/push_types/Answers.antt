use Rattle.std.proofs.Common.{arith}
use Rattle.hw_model.specs.TypeViews.{type_of}
use Rattle.mlir_printer.specs.Types.{type_bytes}
use Rattle.mlir_printer.proofs.steps.Steps.{items_all}
use Rattle.mlir_printer.proofs.types.push_types.Goals as goal

pub returns : goal.returns
returns c =
    items_all type_bytes type_of c.loop-i.i 0 c.args.types.now c.loop-i.i c.args.out.now c.loop-i.out (omega (arith, c.loop-i-test.false)) c.loop-i.invariant
