-- What a reader has before it: the first thing that is left, and what stands after it.
use Rattle.std.specs.Prelude.{List, [], ◌∷◌, length}
use Rattle.diag.specs.Location.{location_of}
use Rattle.mlir_lexer.specs.Cursor.{Cursor}
use Rattle.mlir_lexer.specs.Tokens.{tokens_left, text_token}
use Rattle.mlir_syntax.specs.Stream.{StreamToken, token, bad, end, stream}
use Rattle.mlir_syntax.specs.declared.head.Head.{Head}
use Rattle.mlir_syntax.specs.declared.head.Head.TheVariants as head

-- the tokens from a position of a text on
abbrev pub stream_left : Cursor → List StreamToken
stream_left cursor = stream (location_of cursor.source (length cursor.source)) (tokens_left cursor)

-- a head and what stands after it; nothing stands after the end
abbrev pub symbols : Head → List StreamToken → List StreamToken
symbols (head.Token t) following = token (text_token t) ∷ following
symbols (head.Bad p) following = bad p ∷ []
symbols (head.End p) following = end p ∷ []
