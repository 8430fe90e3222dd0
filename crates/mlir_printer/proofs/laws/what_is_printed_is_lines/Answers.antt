use Rattle.mlir_printer.proofs.lines.TextLines.{text_has_lines}
use Rattle.mlir_printer.proofs.laws.what_is_printed_is_lines.Goals as goal

pub returns : goal.returns
returns c = text_has_lines
