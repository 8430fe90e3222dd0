-- What values of `NameClass` stand for.
use Rattle.mlir_operations.specs.OperationText as text
use Rattle.mlir_operations.specs.declared.operation_names.NameClass.{NameClass}
use Rattle.mlir_operations.specs.declared.operation_names.NameClass.TheVariants as classes

abbrev pub class_seen : NameClass → text.NameClass
class_seen (classes.Operation o) = text.NameClass.operation o
class_seen classes.Module = text.NameClass.module_name
class_seen classes.File = text.NameClass.file_name
class_seen classes.Locations = text.NameClass.locations
class_seen classes.Outside = text.NameClass.outside
class_seen classes.Unknown = text.NameClass.unknown
