use Rattle.mlir_printer.proofs.again.PrintedDesigns.{printed_designs_are_read_again}
use Rattle.mlir_printer.proofs.laws.what_is_printed_is_read_again.Goals as goal

pub returns : goal.returns
returns c = printed_designs_are_read_again c.what_is_spelled_is_read.ensures
