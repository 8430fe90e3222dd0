use Rattle.std.proofs.Common.{◌++◌, map, arith}
use Rattle.hw_model.specs.TypeViews.{type_of}
use Rattle.mlir_printer.specs.Commas.{commas}
use Rattle.mlir_printer.specs.Elements.{input_bytes, inputs_joined}
use Rattle.mlir_printer.specs.Views.{value_held}
use Rattle.std.proofs.Common.{drop}
use Rattle.mlir_printer.proofs.steps.Passing.{inputs_none, all_added}
use Rattle.mlir_printer.proofs.instances.push_inputs.Goals as goal

pub returns : goal.returns
returns c =
    let g = value_held c.args.names.now in
    let i = c.loop-i.i in
    all_added input_bytes i (inputs_joined (drop i c.args.ports.now) (map g (drop i c.args.operands.now)) (map type_of (drop i c.args.types.now))) c.loop-i.out
    (c.args.out.now ++ commas input_bytes (inputs_joined c.args.ports.now (map g c.args.operands.now) (map type_of c.args.types.now)))
    (inputs_none g type_of c.args.ports.now c.args.operands.now c.args.types.now i (omega (arith, c.loop-i-test.false, c.min-count.ensures, c.min.ensures)))
    c.loop-i.invariant
