-- Where nothing is open, all that may be opened is left.
use Rattle.mlir_syntax.specs.TypeText.{any_type}
use Rattle.mlir_syntax.proofs.reader.Reader.any_type.Goals as goal

pub returns-clause-gives : goal.returns-clause-gives
unfolding any_type
returns-clause-gives c = c.type_text.ensures.gives
