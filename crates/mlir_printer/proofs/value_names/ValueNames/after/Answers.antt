use Rattle.std.proofs.Common.{◌+◌, ◌≤◌, ◌^◌, arith}
use Rattle.mlir_printer.specs.Views.{names_held}
use Rattle.mlir_printer.proofs.names.Numbered.{none_after, not_below}
use Rattle.mlir_printer.proofs.names.Values.{names_few}
use Rattle.mlir_printer.proofs.value_names.ValueNames.after.Goals as goal

pub returns-in-None : goal.returns-in-None
returns-in-None c =
    none_after (c.args.first + c.args.number) (names_held c.args.self.now) (let far : 2 ^ 64 ≤ c.args.first + c.args.number = not_below (c.args.first + c.args.number) c.in-None.ensures in omega (arith, names_few c.args.self.now, far))
