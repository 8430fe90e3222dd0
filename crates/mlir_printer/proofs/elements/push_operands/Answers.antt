use Rattle.std.proofs.Common.{arith}
use Rattle.mlir_printer.specs.Elements.{operand_bytes}
use Rattle.mlir_printer.specs.Views.{value_held}
use Rattle.mlir_printer.proofs.steps.Steps.{items_all}
use Rattle.mlir_printer.proofs.elements.push_operands.Goals as goal

pub returns : goal.returns
returns c =
    items_all operand_bytes (value_held c.args.names.now) c.loop-i.i 0 c.args.operands.now c.loop-i.i c.args.out.now c.loop-i.out (omega (arith, c.loop-i-test.false)) c.loop-i.invariant
