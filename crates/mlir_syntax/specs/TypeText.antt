-- The text of types (MLIR language reference, builtin dialect: IntegerType; CIRCT: HW dialect types, Seq dialect types).
use Rattle.std.specs.Prelude.{ℕ, zero, suc, Bool, true, cond, ◌&&◌, ◌==◌, List, [], ◌∷◌, length, Option, Some, None, Ok, Err, codes}
use Rattle.diag.specs.declared.refusal.OpName.{OpName}
use Rattle.diag.specs.declared.cause.Cause.TheVariants.{OutsideProfile, TooDeep}
use Rattle.hw_model.specs.Types.{Name, HwType}
use Rattle.hw_model.specs.Types.HwType.{int, clock, array, struct}
use Rattle.hw_model.specs.TypeViews.{NamedType, fields_of}
use Rattle.hw_model.specs.Design.{same_name}
use Rattle.mlir_lexer.specs.Classes.{is_digit}
use Rattle.mlir_lexer.specs.Runs.{run}
use Rattle.mlir_lexer.specs.Contents.{content_of}
use Rattle.mlir_lexer.specs.Tokens.{TextToken}
use Rattle.mlir_lexer.specs.declared.token.TokenKind.TheVariants as kind
use Rattle.mlir_syntax.specs.Stream.{StreamToken, token, bad, end, first, after, refusal_at, unexpected_refusal}
use Rattle.mlir_lexer.specs.TokenKinds.{is_kind}
use Rattle.mlir_syntax.specs.Reads.{Reads, Read, on, want, items_until}
use Rattle.mlir_syntax.specs.Numerals.{number_in, below_limit, number_below, count_limit}

-- how many types and lists may be open at a location
abbrev pub most_open : ℕ
most_open = 32

-- the digits after an `i`
abbrev pub width_digits : List ℕ → Option (List ℕ)
width_digits [] = None
width_digits (b ∷ []) = None
width_digits (b ∷ d ∷ ds) = cond (b == 105 && run is_digit (d ∷ ds) == length (d ∷ ds)) (Some (d ∷ ds)) None

-- what after the `x` of an array's length belongs to the element's type
abbrev pub after_x : List ℕ → Option (List ℕ)
after_x [] = None
after_x (b ∷ bs) = cond (b == 120) (Some bs) None

-- what a token begins a type as
pub data TypeHead : Type 0 where
  integer_type : List ℕ → TypeHead
  clock_type array_type struct_type foreign_type no_type : TypeHead

-- a bare name that is `i` and digits
abbrev pub bare_type : Option (List ℕ) → TypeHead
bare_type None = no_type
bare_type (Some digits) = integer_type digits

-- a name after `!`
abbrev pub named_type : List ℕ → TypeHead
named_type name =
    cond (same_name name (codes "seq.clock")) clock_type
    (cond (same_name name (codes "hw.array")) array_type
    (cond (same_name name (codes "hw.struct")) struct_type foreign_type))

abbrev pub type_head : Option TextToken → TypeHead
type_head None = no_type
type_head (Some t) =
    cond (is_kind t.kind kind.BareName) (bare_type (width_digits t.text))
    (cond (is_kind t.kind kind.TypeName) (named_type (content_of kind.TypeName t.text)) no_type)

-- an integer type, whose width the first token says
unfoldable pub width_type : OpName → List StreamToken → List ℕ → Read HwType
width_type op s digits = on (below_limit count_limit op s (number_in 10 0 digits) (after s)) (λ w left. Ok (int w, left))

-- a type of this head, where arrays and structs are read so
unfoldable pub type_with : Reads HwType → Reads HwType → OpName → List StreamToken → TypeHead → Read HwType
type_with arrays structs op s (integer_type digits) = width_type op s digits
type_with arrays structs op s clock_type = Ok (clock, after s)
type_with arrays structs op s array_type = arrays s
type_with arrays structs op s struct_type = structs s
type_with arrays structs op s foreign_type = Err (refusal_at OutsideProfile op s)
type_with arrays structs op s no_type = Err (unexpected_refusal op s)

-- an element's type that begins within the token of the `x`
unfoldable pub glued_element : OpName → List StreamToken → Option (List ℕ) → Read HwType
glued_element op s None = Err (unexpected_refusal op s)
glued_element op s (Some digits) = width_type op s digits

-- what the first token has after an `x`
abbrev pub x_rest : Option TextToken → Option (List ℕ)
x_rest None = None
x_rest (Some t) = cond (is_kind t.kind kind.BareName) (after_x t.text) None

-- an element's type after an `x`; nothing more may stand in the token of the `x`, or an integer type
unfoldable pub element_after : Reads HwType → OpName → List StreamToken → Option (List ℕ) → Read HwType
element_after element op s None = Err (unexpected_refusal op s)
element_after element op s (Some []) = element (after s)
element_after element op s (Some (b ∷ bs)) = glued_element op s (width_digits (b ∷ bs))

-- `xT`
unfoldable pub element_type : Reads HwType → OpName → Reads HwType
element_type element op s = element_after element op s (x_rest (first s))

-- `<NxT>` after the name of the array type
unfoldable pub array_text : Reads HwType → OpName → Reads HwType
array_text element op s =
    on (want op kind.Less (after s)) (λ _ s1. on (number_below count_limit op s1) (λ n s2.
    on (element_type element op s2) (λ t s3. on (want op kind.Greater s3) (λ _ s4. Ok (array n t, s4)))))

-- whether a token is a bare name or a string
abbrev pub is_name : TextToken → Bool
is_name t = cond (is_kind t.kind kind.BareName) true (is_kind t.kind kind.StringLiteral)

-- a bare name, or what a string holds
unfoldable pub name_text : OpName → Reads Name
name_text op [] = Err (unexpected_refusal op [])
name_text op (token t ∷ ts) = cond (is_name t) (Ok (content_of t.kind t.text, ts)) (Err (unexpected_refusal op (token t ∷ ts)))
name_text op (bad p ∷ ts) = Err (unexpected_refusal op (bad p ∷ ts))
name_text op (end p ∷ ts) = Err (unexpected_refusal op (end p ∷ ts))

-- `f : T`
unfoldable pub field_text : Reads HwType → OpName → Reads NamedType
field_text element op s =
    on (name_text op s) (λ name s1. on (want op kind.Colon s1) (λ _ s2. on (element s2) (λ t s3. Ok (record { name = name; type = t }, s3))))

-- `<f : T, ..>` after the name of the struct type
unfoldable pub struct_text : Reads HwType → OpName → Reads HwType
struct_text element op s =
    on (want op kind.Less (after s)) (λ _ s1. on (items_until op kind.Greater (field_text element op) s1) (λ fs s2. Ok (struct (fields_of fs), s2)))

-- one more may not be opened
unfoldable pub too_deep : {A : Type 0} → OpName → Reads A
too_deep op s = Err (refusal_at TooDeep op s)

-- a type, where so many more may be opened
abbrev pub type_text : ℕ → OpName → Reads HwType
type_text zero op s = type_with (too_deep op) (too_deep op) op s (type_head (first s))
type_text (suc room) op s = type_with (array_text (type_text room op) op) (struct_text (type_text room op) op) op s (type_head (first s))

-- a type, where nothing is open
unfoldable pub any_type : OpName → Reads HwType
any_type op s = type_text most_open op s
