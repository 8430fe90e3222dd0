-- What values of the parts of an instance stand for.
use Rattle.hw_model.specs.TypeViews.{type_of}
use Rattle.mlir_operations.specs.ElementText as text
use Rattle.mlir_operations.specs.Views.{operand_of}
use Rattle.mlir_operations.specs.declared.instance_text.Joined.{Joined}

abbrev pub joined_of : Joined → text.Joined
joined_of j = record { port = j.port; operand = operand_of j.operand; type = type_of j.ty }
