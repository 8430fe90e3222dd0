use Rattle.std.proofs.Common.{◌++◌, map, drop, arith}
use Rattle.hw_model.specs.TypeViews.{type_of}
use Rattle.mlir_printer.specs.Commas.{commas}
use Rattle.mlir_printer.specs.Elements.{output_bytes, outputs_joined}
use Rattle.mlir_printer.proofs.steps.Passing.{outputs_none, all_added}
use Rattle.mlir_printer.proofs.instances.push_outputs.Goals as goal

pub returns : goal.returns
returns c =
    let i = c.loop-i.i in
    all_added output_bytes i (outputs_joined (drop i c.args.ports.now) (map type_of (drop i c.args.types.now))) c.loop-i.out
    (c.args.out.now ++ commas output_bytes (outputs_joined c.args.ports.now (map type_of c.args.types.now)))
    (outputs_none type_of c.args.ports.now c.args.types.now i (omega (arith, c.loop-i-test.false, c.min-count.ensures)))
    c.loop-i.invariant
