-- What values of `AttributeHead` and `StringKeys` stand for.
use Rattle.std.specs.Prelude.{List, [], ◌∷◌, codes}
use Rattle.hw_model.specs.Types.{Name}
use Rattle.mlir_lexer.specs.Contents.{content_of}
use Rattle.mlir_lexer.specs.declared.token.TokenKind.TheVariants as kind
use Rattle.mlir_syntax.specs.AttributeText as text
use Rattle.mlir_syntax.specs.declared.attribute_text.AttributeHead.{AttributeHead}
use Rattle.mlir_syntax.specs.declared.attribute_text.AttributeHead.TheVariants as heads
use Rattle.mlir_syntax.specs.declared.dictionary_text.StringKeys.{StringKeys}
use Rattle.mlir_syntax.specs.declared.dictionary_text.StringKeys.TheVariants.{Hint, HintAndName}

abbrev pub head_of : AttributeHead → text.AttributeHead
head_of (heads.Text t) = text.AttributeHead.text_head (content_of kind.StringLiteral t.text.now)
head_of (heads.Symbol t) = text.AttributeHead.symbol_head (content_of t.kind t.text.now)
head_of (heads.Truth b) = text.AttributeHead.truth_head b
head_of heads.Number = text.AttributeHead.number_head
head_of heads.List = text.AttributeHead.list_head
head_of heads.Alias = text.AttributeHead.alias_head
head_of heads.Nothing = text.AttributeHead.no_head

-- the keys whose values are strings
abbrev pub keys_of : StringKeys → List Name
keys_of Hint = codes "sv.namehint" ∷ []
keys_of HintAndName = codes "sv.namehint" ∷ codes "name" ∷ []
