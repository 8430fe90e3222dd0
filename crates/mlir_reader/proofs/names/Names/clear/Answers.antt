use Rattle.mlir_reader.proofs.Tables.{no_names}
use Rattle.mlir_reader.proofs.names.Names.clear.Goals as goal

pub returns : goal.returns
returns c = no_names _ c.clear.ensures.items c.clear_table.ensures c.clear_table-2.ensures
