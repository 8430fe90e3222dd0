-- How the pieces of an operation are printed, and what each takes of what was gathered.
use Rattle.std.specs.Prelude.{ℕ, List, [], ◌∷◌, ◌++◌, length, drop, Option, Some, None, codes}
use Rattle.hw_model.specs.Types.{Name, HwType}
use Rattle.hw_model.specs.TypeViews.{NamedType}
use Rattle.hw_model.specs.Kinds.{Predicate, Instance}
use Rattle.hw_model.specs.Kinds.Predicate.{eq, ne, slt, sle, sgt, sge, ult, ule, ugt, uge, ceq, cne, weq, wne}
use Rattle.mlir_lexer.specs.declared.token.TokenKind.{TokenKind}
use Rattle.mlir_lexer.specs.declared.token.TokenKind.TheVariants as kind
use Rattle.mlir_operations.specs.ElementText.{InherentAttributes}
use Rattle.mlir_operations.specs.ElementText.InherentAttributes.{with_reset, with_async_reset, predicate, position, number, literals, field_name, child}
use Rattle.assembly_format.specs.declared.elements.Keyword.{Keyword}
use Rattle.assembly_format.specs.declared.elements.Keyword.TheVariants.{From, Clock}
use Rattle.assembly_format.specs.declared.elements.FormatElement.{FormatElement}
use Rattle.assembly_format.specs.declared.elements.FormatElement.TheVariants as element
use Rattle.mlir_printer.specs.Strings.{string_bytes, name_bytes, symbol_bytes}
use Rattle.printing_laws.specs.Numbers.{count_bytes, integer_bytes, truth_bytes, is_one}
use Rattle.mlir_printer.specs.Types.{type_bytes}
use Rattle.mlir_printer.specs.Literals.{literals_from}
use Rattle.mlir_printer.specs.Commas.{commas}

-- ---- operands

-- `%v`
unfoldable pub value_name_bytes : Name → List ℕ
value_name_bytes name = codes "%" ++ name

-- a value as it is printed: its name, and its number within a pack
pub record ValueText : Type 0 where
  pub name : Name
  pub number : Option ℕ

-- `#i`, or nothing
unfoldable pub pack_number_bytes : Option ℕ → List ℕ
pack_number_bytes None = []
pack_number_bytes (Some n) = codes "#" ++ count_bytes n

-- what is not there has no name
abbrev pub no_value : ValueText
no_value = record { name = []; number = None }

-- what is left to print of an operation: operands, types, and what it says besides
pub record Pending : Type 0 where
  pub operands : List ValueText
  pub types : List HwType
  pub inherent : InherentAttributes

-- the first of some operands, where there is one
abbrev pub first_operand : List ValueText → ValueText
first_operand [] = no_value
first_operand (o ∷ os) = o

-- the first of some types, where there is one
abbrev pub first_type_bytes : List HwType → List ℕ
first_type_bytes [] = []
first_type_bytes (t ∷ ts) = type_bytes t

-- ---- marks, words, predicates

-- a mark with the blanks round it
unfoldable pub mark_bytes : TokenKind → List ℕ
mark_bytes kind.Arrow = codes " -> "
mark_bytes kind.LeftParenthesis = codes "("
mark_bytes kind.RightParenthesis = codes ")"
mark_bytes kind.LeftBrace = codes "{"
mark_bytes kind.RightBrace = codes "}"
mark_bytes kind.LeftBracket = codes "["
mark_bytes kind.RightBracket = codes "]"
mark_bytes kind.Less = codes "<"
mark_bytes kind.Greater = codes ">"
mark_bytes kind.Colon = codes " : "
mark_bytes kind.Comma = codes ", "
mark_bytes kind.Equals = codes " = "
mark_bytes kind.Minus = codes "-"
mark_bytes _ = []

-- a word with the blanks round it
unfoldable pub word_bytes : Keyword → List ℕ
word_bytes From = codes " from "
word_bytes Clock = codes " clock "

-- the name of a predicate (CIRCT, Comb dialect: ICmpPredicate)
unfoldable pub predicate_bytes : Predicate → List ℕ
predicate_bytes eq = codes "eq"
predicate_bytes ne = codes "ne"
predicate_bytes slt = codes "slt"
predicate_bytes sle = codes "sle"
predicate_bytes sgt = codes "sgt"
predicate_bytes sge = codes "sge"
predicate_bytes ult = codes "ult"
predicate_bytes ule = codes "ule"
predicate_bytes ugt = codes "ugt"
predicate_bytes uge = codes "uge"
predicate_bytes ceq = codes "ceq"
predicate_bytes cne = codes "cne"
predicate_bytes weq = codes "weq"
predicate_bytes wne = codes "wne"

-- `%v`, `%v#i`
unfoldable pub operand_bytes : ValueText → List ℕ
operand_bytes o = value_name_bytes o.name ++ pack_number_bytes o.number

-- ---- what is said besides operands and types: what is not said is not printed

abbrev pub predicate_said : InherentAttributes → List ℕ
predicate_said (predicate p) = predicate_bytes p
predicate_said _ = []

abbrev pub position_said : InherentAttributes → List ℕ
position_said (position n) = count_bytes n
position_said _ = []

abbrev pub truth_said : InherentAttributes → List ℕ
truth_said (number z) = truth_bytes (is_one z)
truth_said _ = []

abbrev pub number_said : InherentAttributes → List ℕ
number_said (number z) = integer_bytes z
number_said _ = []

abbrev pub literals_said : InherentAttributes → List ℕ
literals_said (literals ls) = literals_from 0 ls
literals_said _ = []

abbrev pub field_said : InherentAttributes → List ℕ
field_said (field_name name) = string_bytes name
field_said _ = []

-- words and two operands
abbrev pub reset_bytes : List ℕ → List ValueText → List ℕ
reset_bytes words os = words ++ (operand_bytes (first_operand os) ++ (codes ", " ++ operand_bytes (first_operand (drop 1 os))))

-- `reset %r, %v`, where something resets
abbrev pub reset_said : InherentAttributes → List ValueText → List ℕ
reset_said with_reset os = reset_bytes (codes " reset ") os
reset_said _ os = []

-- `reset sync %r, %v` or `reset async %r, %v`, where something resets
abbrev pub sync_or_async_reset_said : InherentAttributes → List ValueText → List ℕ
sync_or_async_reset_said with_reset os = reset_bytes (codes " reset sync ") os
sync_or_async_reset_said with_async_reset os = reset_bytes (codes " reset async ") os
sync_or_async_reset_said _ os = []

-- ---- instances

-- an operand of an instance: the name of its port, and its type
pub record InputText : Type 0 where
  pub port : Name
  pub operand : ValueText
  pub type : HwType

-- `p: %v: T`
unfoldable pub input_bytes : InputText → List ℕ
input_bytes j = name_bytes j.port ++ (codes ": " ++ (operand_bytes j.operand ++ (codes ": " ++ type_bytes j.type)))

-- `q: T`
unfoldable pub output_bytes : NamedType → List ℕ
output_bytes q = name_bytes q.name ++ (codes ": " ++ type_bytes q.type)

-- the inputs of an instance: the names of its ports with the operands and types in order, as many as there are of each
abbrev pub inputs_joined : List Name → List ValueText → List HwType → List InputText
inputs_joined (p ∷ ps) (o ∷ os) (t ∷ ts) = record { port = p; operand = o; type = t } ∷ inputs_joined ps os ts
inputs_joined _ _ _ = []

-- the outputs of an instance: the names of its ports with the types in order, as many as there are of each
abbrev pub outputs_joined : List Name → List HwType → List NamedType
outputs_joined (q ∷ qs) (t ∷ ts) = record { name = q; type = t } ∷ outputs_joined qs ts
outputs_joined _ _ = []

-- ` sym @s`, or nothing
unfoldable pub inner_bytes : Option Name → List ℕ
inner_bytes None = []
inner_bytes (Some name) = codes "sym " ++ (symbol_bytes name ++ codes " ")

-- `"u" [sym @s] @N`
unfoldable pub instance_head : Instance → List ℕ
instance_head i = string_bytes i.name ++ (codes " " ++ (inner_bytes i.inner_symbol ++ symbol_bytes i.symbol))

-- `(p: %v: T, ..) -> (q: T, ..)`
unfoldable pub connections_bytes : List Name → List Name → List ValueText → List HwType → List ℕ
connections_bytes ins outs os ts =
    codes "(" ++ (commas input_bytes (inputs_joined ins os ts)
    ++ (codes ") -> (" ++ (commas output_bytes (outputs_joined outs (drop (length ins) ts)) ++ codes ")")))

-- an instance
unfoldable pub instance_bytes : Instance → List ValueText → List HwType → List ℕ
instance_bytes i os ts = instance_head i ++ connections_bytes i.inputs i.outputs os ts

abbrev pub instance_said : InherentAttributes → List ValueText → List HwType → List ℕ
instance_said (child i) os ts = instance_bytes i os ts
instance_said _ os ts = []

-- ---- pieces

-- a piece of what is said besides operands and types
unfoldable pub said_bytes : FormatElement → Pending → List ℕ
said_bytes element.Predicate g = predicate_said g.inherent
said_bytes element.Number g = position_said g.inherent
said_bytes element.Truth g = truth_said g.inherent
said_bytes element.Integer g = number_said g.inherent
said_bytes element.Literals g = literals_said g.inherent
said_bytes element.Field g = field_said g.inherent
said_bytes element.Instance g = instance_said g.inherent g.operands g.types
said_bytes _ g = []

-- a piece, of what is left
unfoldable pub element_bytes : FormatElement → Pending → List ℕ
element_bytes (element.Mark k) g = mark_bytes k
element_bytes (element.Word w) g = word_bytes w
element_bytes element.Operand g = operand_bytes (first_operand g.operands)
element_bytes element.Operands g = commas operand_bytes g.operands
element_bytes element.Group g = codes "(" ++ (commas operand_bytes g.operands ++ codes ")")
element_bytes element.Predicate g = predicate_said g.inherent ++ codes " "
element_bytes element.Number g = position_said g.inherent
element_bytes element.Truth g = truth_said g.inherent
element_bytes element.Integer g = number_said g.inherent
element_bytes element.Literals g = codes "[" ++ (literals_said g.inherent ++ codes "]")
element_bytes element.Field g = field_said g.inherent
element_bytes element.Instance g = instance_said g.inherent g.operands g.types
element_bytes element.Reset g = reset_said g.inherent g.operands
element_bytes element.SyncOrAsyncReset g = sync_or_async_reset_said g.inherent g.operands
element_bytes element.Type g = first_type_bytes g.types
element_bytes element.Types g = commas type_bytes g.types

-- how many operands a piece takes
abbrev pub operands_taken : FormatElement → ℕ
operands_taken element.Operand = 1
operands_taken _ = 0

-- how many types a piece takes
abbrev pub types_taken : FormatElement → ℕ
types_taken element.Type = 1
types_taken _ = 0

-- what is left after a piece
abbrev pub left_after : FormatElement → Pending → Pending
left_after p g = record { operands = drop (operands_taken p) g.operands; types = drop (types_taken p) g.types; inherent = g.inherent }

-- pieces, one after another
abbrev pub elements_bytes : List FormatElement → Pending → List ℕ
elements_bytes [] g = []
elements_bytes (p ∷ ps) g = element_bytes p g ++ elements_bytes ps (left_after p g)
