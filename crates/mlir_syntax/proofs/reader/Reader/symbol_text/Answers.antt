-- What is no symbol is refused: there is another token, or none.
use Rattle.std.proofs.Common.{rules}
use Rattle.mlir_syntax.specs.WordText.{symbol_text}
use Rattle.mlir_syntax.proofs.reader.Reader.symbol_text.Goals as goal
use Rattle.mlir_syntax.proofs.reader.Reader.symbol_text.Goals.{in-Some+else-is_symbol, in-None-1}

pub returns-in-Some-2-clause-gives : goal.returns-in-Some-2-clause-gives
unfolding symbol_text
returns-in-Some-2-clause-gives c = elim c.in-Some-2-1.branch [
  | in-Some+else-is_symbol w ↦ search rules
  | in-None-1 w ↦ search rules
]
