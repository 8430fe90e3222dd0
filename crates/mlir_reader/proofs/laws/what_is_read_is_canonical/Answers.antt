use Rattle.mlir_reader.proofs.canonical.ReadModules.{read_is_canonical}
use Rattle.mlir_reader.proofs.laws.what_is_read_is_canonical.Goals as goal

pub returns : goal.returns
returns c = read_is_canonical
