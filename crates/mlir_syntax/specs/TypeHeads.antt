-- What values of `TypeHead` stand for.
use Rattle.mlir_syntax.specs.TypeText as text
use Rattle.mlir_syntax.specs.declared.type_text.TypeHead.{TypeHead}
use Rattle.mlir_syntax.specs.declared.type_text.TypeHead.TheVariants as heads

abbrev pub head_of : TypeHead → text.TypeHead
head_of (heads.Integer digits) = text.TypeHead.integer_type digits.now
head_of heads.Clock = text.TypeHead.clock_type
head_of heads.Array = text.TypeHead.array_type
head_of heads.Struct = text.TypeHead.struct_type
head_of heads.Foreign = text.TypeHead.foreign_type
head_of heads.Nothing = text.TypeHead.no_type
