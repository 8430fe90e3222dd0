-- The forms of operations: which pieces stand after a name, before and after a dictionary that stands before the types
-- (CIRCT: assembly formats of the operations of HW, Comb and Seq).
use Rattle.std.specs.Prelude.{Bool, false, cond, List, [], ◌∷◌, Option, Some, None, codes, ℕ}
use Rattle.opcode.specs.declared.listed.Listed.{Listed}
use Rattle.opcode.specs.declared.listed.Listed.TheVariants as op
use Rattle.mlir_lexer.specs.declared.token.TokenKind.{TokenKind}
use Rattle.mlir_lexer.specs.declared.token.TokenKind.TheVariants as kind
use Rattle.mlir_lexer.specs.Tokens.{TextToken}
use Rattle.mlir_lexer.specs.TokenKinds.{is_kind}
use Rattle.assembly_format.specs.declared.elements.Keyword.{Keyword}
use Rattle.assembly_format.specs.declared.elements.Keyword.TheVariants.{From, Clock}
use Rattle.assembly_format.specs.declared.elements.FormatElement.{FormatElement}
use Rattle.assembly_format.specs.declared.elements.FormatElement.TheVariants as element
use Rattle.assembly_format.specs.declared.elements.Format.{Format}
use Rattle.assembly_format.specs.declared.elements.Format.TheVariants as format

-- a word
abbrev pub text_of_keyword : Keyword → List ℕ
text_of_keyword From = codes "from"
text_of_keyword Clock = codes "clock"

-- whether the first token is of a kind
abbrev pub is_of : TokenKind → Option TextToken → Bool
is_of k None = false
is_of k (Some t) = is_kind t.kind k

-- the form of an operation: two operands of one type where no other is stated; that of a constant and of an output is told
-- by the token after the name
unfoldable pub format_of : Listed → Option TextToken → Format
format_of op.HwModule next = format.Nothing
format_of op.CombAdd next = format.Variadic
format_of op.CombMul next = format.Variadic
format_of op.CombAnd next = format.Variadic
format_of op.CombOr next = format.Variadic
format_of op.CombXor next = format.Variadic
format_of op.CombIcmp next = format.Comparison
format_of op.CombParity next = format.Unary
format_of op.CombExtract next = format.Extraction
format_of op.CombConcat next = format.Joined
format_of op.CombReplicate next = format.Conversion
format_of op.CombMux next = format.Choice
format_of op.HwConstant next = cond (is_of kind.BareName next) format.Truth format.Integer
format_of op.HwAggregateConstant next = format.Aggregate
format_of op.HwArrayCreate next = format.Variadic
format_of op.HwArrayConcat next = format.Joined
format_of op.HwArrayGet next = format.Element
format_of op.HwArraySlice next = format.Slice
format_of op.HwArrayInject next = format.ElementChange
format_of op.HwStructCreate next = format.Struct
format_of op.HwStructExtract next = format.Field
format_of op.HwStructInject next = format.FieldChange
format_of op.HwStructExplode next = format.Unary
format_of op.HwBitcast next = format.Conversion
format_of op.HwWire next = format.Unary
format_of op.HwInstance next = format.Instance
format_of op.HwOutput next = cond (is_of kind.ValueName next) format.Joined format.Nothing
format_of op.SeqCompreg next = format.Register
format_of op.SeqCompregCe next = format.EnabledRegister
format_of op.SeqFirreg next = format.ClockedRegister
format_of _ next = format.Binary

abbrev pub comma : FormatElement
comma = element.Mark kind.Comma

-- `%a[%i]`
abbrev pub format_with_index : List FormatElement
format_with_index = element.Operand ∷ element.Mark kind.LeftBracket ∷ element.Operand ∷ element.Mark kind.RightBracket ∷ []

-- the pieces before the types
unfoldable pub prefix_elements : Format → List FormatElement
prefix_elements format.Variadic = element.Operands ∷ []
prefix_elements format.Binary = element.Operand ∷ comma ∷ element.Operand ∷ []
prefix_elements format.Comparison = element.Predicate ∷ element.Operand ∷ comma ∷ element.Operand ∷ []
prefix_elements format.Unary = element.Operand ∷ []
prefix_elements format.Extraction = element.Operand ∷ element.Word From ∷ element.Number ∷ []
prefix_elements format.Joined = element.Operands ∷ []
prefix_elements format.Conversion = element.Operand ∷ []
prefix_elements format.Choice = element.Operand ∷ comma ∷ element.Operand ∷ comma ∷ element.Operand ∷ []
prefix_elements format.Truth = element.Truth ∷ []
prefix_elements format.Integer = element.Integer ∷ []
prefix_elements format.Aggregate = element.Literals ∷ []
prefix_elements format.Element = element.Operand ∷ element.Mark kind.LeftBracket ∷ element.Operand ∷ element.Mark kind.RightBracket ∷ []
prefix_elements format.Slice = element.Operand ∷ element.Mark kind.LeftBracket ∷ element.Operand ∷ element.Mark kind.RightBracket ∷ []
prefix_elements format.ElementChange = element.Operand ∷ element.Mark kind.LeftBracket ∷ element.Operand ∷ element.Mark kind.RightBracket ∷ comma ∷ element.Operand ∷ []
prefix_elements format.Struct = element.Group ∷ []
prefix_elements format.Field = element.Operand ∷ element.Mark kind.LeftBracket ∷ element.Field ∷ element.Mark kind.RightBracket ∷ []
prefix_elements format.FieldChange = element.Operand ∷ element.Mark kind.LeftBracket ∷ element.Field ∷ element.Mark kind.RightBracket ∷ comma ∷ element.Operand ∷ []
prefix_elements format.Instance = element.Instance ∷ []
prefix_elements format.Nothing = []
prefix_elements format.Register = element.Operand ∷ comma ∷ element.Operand ∷ element.Reset ∷ []
prefix_elements format.EnabledRegister = element.Operand ∷ comma ∷ element.Operand ∷ comma ∷ element.Operand ∷ element.Reset ∷ []
prefix_elements format.ClockedRegister = element.Operand ∷ element.Word Clock ∷ element.Operand ∷ element.SyncOrAsyncReset ∷ []

-- `: T`
abbrev pub one_type : List FormatElement
one_type = element.Mark kind.Colon ∷ element.Type ∷ []

-- `: T, T`
abbrev pub two_types : List FormatElement
two_types = element.Mark kind.Colon ∷ element.Type ∷ element.Mark kind.Comma ∷ element.Type ∷ []

-- `: (T) -> T`
abbrev pub function_type : List FormatElement
function_type =
    element.Mark kind.Colon ∷ element.Mark kind.LeftParenthesis ∷ element.Type ∷ element.Mark kind.RightParenthesis
    ∷ element.Mark kind.Arrow ∷ element.Type ∷ []

-- the colon and the types
unfoldable pub type_elements : Format → List FormatElement
type_elements format.Variadic = one_type
type_elements format.Binary = one_type
type_elements format.Comparison = one_type
type_elements format.Unary = one_type
type_elements format.Extraction = function_type
type_elements format.Joined = element.Mark kind.Colon ∷ element.Types ∷ []
type_elements format.Conversion = function_type
type_elements format.Choice = one_type
type_elements format.Truth = []
type_elements format.Integer = one_type
type_elements format.Aggregate = one_type
type_elements format.Element = two_types
type_elements format.Slice = function_type
type_elements format.ElementChange = two_types
type_elements format.Struct = one_type
type_elements format.Field = one_type
type_elements format.FieldChange = one_type
type_elements format.Instance = []
type_elements format.Nothing = []
type_elements format.Register = one_type
type_elements format.EnabledRegister = one_type
type_elements format.ClockedRegister = one_type
