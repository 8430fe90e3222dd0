use Rattle.mlir_reader.proofs.AgainTexts.{refused_prefix}
use Rattle.mlir_reader.proofs.laws.a_refused_prefix_is_not_spelled.Goals as goal

pub returns : goal.returns
returns c = refused_prefix
