-- The text of the constants of aggregates (CIRCT, HW dialect: `hw.aggregate_constant`).
use Rattle.std.specs.Prelude.{ℕ, zero, suc, Bool, true, false, cond, List, [], ◌∷◌, Option, Some, None, Ok, Err, codes, pos}
use Rattle.diag.specs.declared.refusal.OpName.{OpName}
use Rattle.hw_model.specs.Types.HwType.{int}
use Rattle.hw_model.specs.Kinds.{Literal, Literals}
use Rattle.hw_model.specs.Kinds.Literal.{leaf, parts}
use Rattle.hw_model.specs.Kinds.Literals.{no_literals, literal}
use Rattle.mlir_lexer.specs.Tokens.{TextToken}
use Rattle.mlir_lexer.specs.declared.token.TokenKind.TheVariants as kind
use Rattle.mlir_syntax.specs.Stream.{StreamToken, first, is_word, after, unexpected_refusal}
use Rattle.mlir_lexer.specs.TokenKinds.{is_kind}
use Rattle.mlir_syntax.specs.Reads.{Reads, Read, on, want, items_until}
use Rattle.mlir_syntax.specs.Numerals.{integer}
use Rattle.mlir_syntax.specs.TypeText.{type_text, too_deep}
use Rattle.mlir_syntax.specs.AttributeText.{begins_integer}

-- what a token begins a constant as
pub data LiteralHead : Type 0 where
  truth_literal : Bool → LiteralHead
  number_literal list_literal no_literal : LiteralHead

abbrev pub literal_head : Option TextToken → LiteralHead
literal_head None = no_literal
literal_head (Some t) =
    cond (begins_integer t) number_literal
    (cond (is_word (codes "true") t) (truth_literal true)
    (cond (is_word (codes "false") t) (truth_literal false)
    (cond (is_kind t.kind kind.LeftBracket) list_literal no_literal)))

-- `5 : T`
unfoldable pub number_leaf : ℕ → OpName → Reads Literal
number_leaf room op s = on (integer op s) (λ z s1. on (want op kind.Colon s1) (λ _ s2. on (type_text room op s2) (λ t s3. Ok (leaf z t, s3))))

-- constants in order
abbrev pub literals_in_order : List Literal → Literals
literals_in_order [] = no_literals
literals_in_order (l ∷ rest) = literal l (literals_in_order rest)

-- `true` and `false` are 1 and 0 of i1
abbrev pub truth_leaf : Bool → Literal
truth_leaf b = leaf (pos (cond b 1 0)) (int 1)

-- `[V, ..]`
unfoldable pub parts_text : Reads Literal → OpName → Reads Literals
parts_text part op s = on (want op kind.LeftBracket s) (λ _ s1. on (items_until op kind.RightBracket part s1) (λ ls s2. Ok (literals_in_order ls, s2)))

-- a list of constants as a constant
unfoldable pub list_part : Reads Literal → OpName → Reads Literal
list_part part op s = on (parts_text part op s) (λ ls left. Ok (parts ls, left))

-- a constant of this head, where lists are read so
unfoldable pub literal_with : Reads Literal → ℕ → OpName → List StreamToken → LiteralHead → Read Literal
literal_with lists room op s (truth_literal b) = Ok (truth_leaf b, after s)
literal_with lists room op s number_literal = number_leaf room op s
literal_with lists room op s list_literal = lists s
literal_with lists room op s no_literal = Err (unexpected_refusal op s)

-- a constant, where so many more lists and types may be opened
abbrev pub literal_text : ℕ → OpName → Reads Literal
literal_text zero op s = literal_with (too_deep op) zero op s (literal_head (first s))
literal_text (suc room) op s = literal_with (list_part (literal_text room op) op) (suc room) op s (literal_head (first s))

-- the constants of an aggregate: the first list is one of 32 that may be open
unfoldable pub aggregate_text : OpName → Reads Literals
aggregate_text op s = parts_text (literal_text 31 op) op s
