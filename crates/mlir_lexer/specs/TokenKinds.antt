-- Kinds of tokens, and whether two are the same.
use Rattle.std.specs.Prelude.{ℕ, Bool, nat_eq}
use Rattle.mlir_lexer.specs.declared.token.TokenKind.{TokenKind}
use Rattle.mlir_lexer.specs.declared.token.TokenKind.TheVariants as kind

-- a number for each kind
abbrev pub tag : TokenKind → ℕ
tag kind.BareName = 0
tag kind.ValueName = 1
tag kind.SymbolName = 2
tag kind.SymbolString = 3
tag kind.Integer = 4
tag kind.StringLiteral = 5
tag kind.ResultNumber = 6
tag kind.AttributeAlias = 7
tag kind.TypeName = 8
tag kind.Arrow = 9
tag kind.LeftParenthesis = 10
tag kind.RightParenthesis = 11
tag kind.LeftBrace = 12
tag kind.RightBrace = 13
tag kind.LeftBracket = 14
tag kind.RightBracket = 15
tag kind.Less = 16
tag kind.Greater = 17
tag kind.Colon = 18
tag kind.Comma = 19
tag kind.Equals = 20
tag kind.Minus = 21

-- whether two kinds are the same
abbrev pub is_kind : TokenKind → TokenKind → Bool
is_kind a b = nat_eq (tag a) (tag b)
