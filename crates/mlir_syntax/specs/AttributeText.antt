-- The text of attributes and dictionaries (MLIR language reference: "Attributes", dictionary attributes).
use Rattle.std.specs.Prelude.{ℕ, zero, suc, ◌^◌, Bool, true, false, cond, nat_lt, List, [], ◌∷◌, ◌++◌, length, Option, Some, None, Ok, Err, codes, ℤ, pos, negsuc}
use Rattle.diag.specs.declared.refusal.OpName.{OpName}
use Rattle.diag.specs.declared.cause.Cause.TheVariants.{OutsideProfile, NumberTooLarge, Unexpected}
use Rattle.hw_model.specs.Types.{Name, HwType}
use Rattle.hw_model.specs.Types.HwType.{int}
use Rattle.hw_model.specs.Design.{same_name, Attribute, Attributes, Entry}
use Rattle.hw_model.specs.Design.Attribute.{unit_value, text_value, symbol_value, truth_value, integer_value, list_value}
use Rattle.hw_model.specs.Design.Attributes.{no_attributes, attribute}
use Rattle.mlir_lexer.specs.Contents.{content_of}
use Rattle.mlir_lexer.specs.Tokens.{TextToken}
use Rattle.mlir_lexer.specs.declared.token.TokenKind.TheVariants as kind
use Rattle.mlir_syntax.specs.Stream.{StreamToken, first, is_next, is_word, after, refusal_at, unexpected_refusal}
use Rattle.mlir_lexer.specs.TokenKinds.{is_kind}
use Rattle.mlir_syntax.specs.Reads.{Reads, Read, on, want, items_until}
use Rattle.mlir_syntax.specs.Numerals.{integer}
use Rattle.mlir_syntax.specs.TypeText.{type_text, too_deep, name_text}

-- what a token begins an attribute as
pub data AttributeHead : Type 0 where
  text_head symbol_head : List ℕ → AttributeHead
  truth_head : Bool → AttributeHead
  number_head list_head alias_head no_head : AttributeHead

-- whether a token is a symbol
abbrev pub is_symbol : TextToken → Bool
is_symbol t = cond (is_kind t.kind kind.SymbolName) true (is_kind t.kind kind.SymbolString)

-- whether a token begins an integer
abbrev pub begins_integer : TextToken → Bool
begins_integer t = cond (is_kind t.kind kind.Integer) true (is_kind t.kind kind.Minus)

abbrev pub attribute_head : Option TextToken → AttributeHead
attribute_head None = no_head
attribute_head (Some t) =
    cond (is_kind t.kind kind.StringLiteral) (text_head (content_of kind.StringLiteral t.text))
    (cond (begins_integer t) number_head
    (cond (is_word (codes "true") t) (truth_head true)
    (cond (is_word (codes "false") t) (truth_head false)
    (cond (is_symbol t) (symbol_head (content_of t.kind t.text))
    (cond (is_kind t.kind kind.LeftBracket) list_head
    (cond (is_kind t.kind kind.AttributeAlias) alias_head no_head))))))

-- whether an integer is one that a dictionary may hold: -2^63 to 2^64 - 1
abbrev pub is_stored : ℤ → Bool
is_stored (pos n) = nat_lt n (2 ^ 64)
is_stored (negsuc n) = nat_lt n (2 ^ 63)

-- the tokens from the digits of an integer on
abbrev pub digits_of : List StreamToken → List StreamToken
digits_of s = cond (is_next kind.Minus s) (after s) s

-- an integer within those bounds
unfoldable pub stored_integer : OpName → Reads ℤ
stored_integer op s =
    on (integer op s) (λ z left. cond (is_stored z) (Ok (z, left)) (Err (refusal_at NumberTooLarge op (digits_of s))))

-- `: T`, or nothing, which means i64
unfoldable pub integer_type : ℕ → OpName → Reads HwType
integer_type room op s = cond (is_next kind.Colon s) (type_text room op (after s)) (Ok (int 64, s))

-- an integer and its type
unfoldable pub typed_integer : ℕ → OpName → Reads Attribute
typed_integer room op s = on (stored_integer op s) (λ z left. on (integer_type room op left) (λ t following. Ok (integer_value z t, following)))

-- attributes in order
abbrev pub in_order : List Attribute → Attributes
in_order [] = no_attributes
in_order (a ∷ rest) = attribute a (in_order rest)

-- `[V, ..]`
unfoldable pub list_text : Reads Attribute → OpName → Reads Attribute
list_text value op s = on (items_until op kind.RightBracket value (after s)) (λ vs left. Ok (list_value (in_order vs), left))

-- an attribute of this head, where lists are read so
unfoldable pub attribute_with : Reads Attribute → ℕ → OpName → List StreamToken → AttributeHead → Read Attribute
attribute_with lists room op s (text_head text) = Ok (text_value text, after s)
attribute_with lists room op s (symbol_head name) = Ok (symbol_value name, after s)
attribute_with lists room op s (truth_head b) = Ok (truth_value b, after s)
attribute_with lists room op s number_head = typed_integer room op s
attribute_with lists room op s list_head = lists s
attribute_with lists room op s alias_head = Err (refusal_at OutsideProfile op s)
attribute_with lists room op s no_head = Err (unexpected_refusal op s)

-- an attribute, where so many more lists and types may be opened
abbrev pub attribute_text : ℕ → OpName → Reads Attribute
attribute_text zero op s = attribute_with (too_deep op) zero op s (attribute_head (first s))
attribute_text (suc room) op s = attribute_with (list_text (attribute_text room op) op) (suc room) op s (attribute_head (first s))

-- ---- dictionaries

-- whether a name is one of those
abbrev pub is_among : Name → List Name → Bool
is_among name [] = false
is_among name (n ∷ names) = cond (same_name n name) true (is_among name names)

-- a key that no earlier entry has
unfoldable pub new_key : OpName → List Name → Reads Name
new_key op keys s = on (name_text op s) (λ key left. cond (is_among key keys) (Err (refusal_at Unexpected op s)) (Ok (key, left)))

-- a value that is a string
unfoldable pub string_value : OpName → Reads Attribute
string_value op s = on (want op kind.StringLiteral s) (λ t left. Ok (text_value (content_of kind.StringLiteral t.text), left))

-- the value of a key: of some keys it is a string
unfoldable pub value_of_key : ℕ → OpName → List Name → Name → Reads Attribute
value_of_key room op strings key s = cond (is_among key strings) (string_value op s) (attribute_text room op s)

-- `= V`, or nothing, which some keys do not have
unfoldable pub entry_value : ℕ → OpName → List Name → Name → Reads Attribute
entry_value room op strings key s =
    cond (is_next kind.Equals s) (value_of_key room op strings key (after s))
    (cond (is_among key strings) (Err (unexpected_refusal op s)) (Ok (unit_value, s)))

-- an entry whose key no earlier one has
unfoldable pub entry_text : ℕ → OpName → List Name → List Name → Reads Entry
entry_text room op strings keys s =
    on (new_key op keys s) (λ key left. on (entry_value room op strings key left) (λ v following. Ok (record { key = key; value = v }, following)))

-- entries with commas between them after those of some keys, so many at most
unfoldable pub entries : ℕ → OpName → List Name → List Name → ℕ → Reads (List Entry)
entries room op strings keys zero s = Err (unexpected_refusal op s)
entries room op strings keys (suc n) s =
    on (entry_text room op strings keys s) (λ e left.
    cond (is_next kind.Comma left) (on (entries room op strings (keys ++ e.key ∷ []) n (after left)) (λ es following. Ok (e ∷ es, following))) (Ok (e ∷ [], left)))

-- `{K = V, ..}`, where the values of some keys are strings
unfoldable pub dictionary_text : OpName → List Name → Reads (List Entry)
dictionary_text op strings s =
    on (want op kind.LeftBrace s) (λ _ s1. cond (is_next kind.RightBrace s1) (Ok ([], after s1))
    (on (entries 32 op strings [] (length s1) s1) (λ es s2. on (want op kind.RightBrace s2) (λ _ s3. Ok (es, s3)))))

-- a dictionary, or nothing
unfoldable pub maybe_dictionary : OpName → List Name → Reads (Option (List Entry))
maybe_dictionary op strings s = cond (is_next kind.LeftBrace s) (on (dictionary_text op strings s) (λ es left. Ok (Some es, left))) (Ok (None, s))
