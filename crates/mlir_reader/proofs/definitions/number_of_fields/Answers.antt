use Rattle.std.proofs.Common.{sym}
use Rattle.mlir_reader.proofs.Defining.{fields_counted}
use Rattle.mlir_reader.proofs.definitions.number_of_fields.Goals as goal

pub returns : goal.returns
returns c = sym (fields_counted c.args.fields.now)
