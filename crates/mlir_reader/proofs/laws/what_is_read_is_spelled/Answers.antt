use Rattle.mlir_reader.proofs.SoundModules.{read_is_spelled}
use Rattle.mlir_reader.proofs.laws.what_is_read_is_spelled.Goals as goal

pub returns : goal.returns
returns c = read_is_spelled
