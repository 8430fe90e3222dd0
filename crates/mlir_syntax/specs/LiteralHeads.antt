-- What values of `LiteralHead` stand for.
use Rattle.mlir_syntax.specs.LiteralText as text
use Rattle.mlir_syntax.specs.declared.literal_text.LiteralHead.{LiteralHead}
use Rattle.mlir_syntax.specs.declared.literal_text.LiteralHead.TheVariants as heads

abbrev pub head_of : LiteralHead → text.LiteralHead
head_of (heads.Truth b) = text.LiteralHead.truth_literal b
head_of heads.Number = text.LiteralHead.number_literal
head_of heads.List = text.LiteralHead.list_literal
head_of heads.Nothing = text.LiteralHead.no_literal
