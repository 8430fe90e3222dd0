use Rattle.std.proofs.Common.{◌++◌, drop, arith}
use Rattle.mlir_printer.specs.Commas.{commas}
use Rattle.mlir_printer.specs.Elements.{value_name_bytes}
use Rattle.mlir_printer.specs.Naming.{firsts}
use Rattle.mlir_printer.specs.Views.{names_held}
use Rattle.mlir_printer.proofs.names.Numbered.{names_step}
use Rattle.mlir_printer.proofs.operations.push_listed.Goals as goal

pub loop-i-preserved : goal.loop-i-preserved
loop-i-preserved c =
    names_step value_name_bytes c.args.count c.args.first c.loop-i.i (names_held c.args.names.now) c.after.result.now c.loop-i.out c.push_comma.new.out c.push_value_name.new.out
    (c.args.out.now ++ commas value_name_bytes (firsts c.args.count (drop c.args.first (names_held c.args.names.now))))
    (omega (arith, c.loop-i-test.true)) c.after.ensures c.loop-i.invariant c.in_ok-push_comma.ensures c.in_ok-push_value_name.ensures
