-- The listed operation of a name settles its class.
use Rattle.std.proofs.Common.{◌∙◌, sym}
use Rattle.mlir_operations.proofs.Classes.{known, unknown}
use Rattle.mlir_operations.proofs.operation_names.class_of.Goals as goal

pub returns-in-Some : goal.returns-in-Some
returns-in-Some c = c.class_of_listed.ensures ∙ sym (known c.in-Some.listed c.args.name.now c.in-Some.ensures.some)

pub returns-in-None : goal.returns-in-None
returns-in-None c = c.class_of_other.ensures ∙ sym (unknown c.args.name.now c.in-None.ensures.none)
