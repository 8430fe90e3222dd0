use Rattle.mlir_printer.proofs.again.PrintedDesigns.{printable_designs_are_spelled}
use Rattle.mlir_printer.proofs.laws.what_is_printable_is_spelled.Goals as goal

pub returns : goal.returns
returns c = printable_designs_are_spelled
