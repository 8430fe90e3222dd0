use Rattle.mlir_reader.proofs.LocalModules.{refusal_is_local}
use Rattle.mlir_reader.proofs.laws.a_refusal_is_of_its_token.Goals as goal

pub returns : goal.returns
returns c = refusal_is_local
