-- Where the modules of a file end.
use Rattle.std.specs.Prelude.{Bool, List}
use Rattle.mlir_lexer.specs.declared.token.TokenKind.TheVariants as kind
use Rattle.mlir_syntax.specs.Stream.{StreamToken, is_next, is_end}
use Rattle.mlir_reader.specs.declared.file_text.Ends.{Ends}
use Rattle.mlir_reader.specs.declared.file_text.Ends.TheVariants.{Brace, Text}

abbrev pub ends_of : Ends → List StreamToken → Bool
ends_of Brace s = is_next kind.RightBrace s
ends_of Text s = is_end s
