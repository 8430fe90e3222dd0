-- What the text of a design says to its reader, and what it needs to be read as the same.
use Rattle.std.specs.Prelude.{◌≡◌, ℕ, ◌+◌, ◌<◌, ◌≤◌, true, List, [], ◌∷◌, length, map, drop, Option, Some, None, ⊤}
use Rattle.diag.specs.Location.{start_location}
use Rattle.hw_model.specs.Types.{Name, HwType}
use Rattle.hw_model.specs.Types.HwType.{int}
use Rattle.hw_model.specs.Kinds.{Instance}
use Rattle.hw_model.specs.Design.{Entry}
use Rattle.mlir_lexer.specs.Prefixes.{suffix_length}
use Rattle.mlir_lexer.specs.declared.token.TokenKind.{TokenKind}
use Rattle.mlir_lexer.specs.declared.token.TokenKind.TheVariants as kind
use Rattle.mlir_syntax.specs.Numerals.{count_limit}
use Rattle.mlir_operations.specs.OperandText.{OperandName}
use Rattle.mlir_operations.specs.ElementText.{InherentAttributes, Gathered, with_operands, with_types, with_inherent}
use Rattle.mlir_operations.specs.ElementText.InherentAttributes.{with_reset, with_async_reset, predicate, position, number, literals, field_name, child}
use Rattle.mlir_operations.specs.OperationText.{OperationText as OperationSaid}
use Rattle.mlir_operations.specs.ModuleText.{PortText as PortSaid, ModuleText as ModuleSaid}
use Rattle.mlir_syntax.specs.Spelling.{AreOnce}
use Rattle.assembly_format.specs.declared.elements.FormatElement.{FormatElement}
use Rattle.assembly_format.specs.declared.elements.FormatElement.TheVariants as element
use Rattle.printing_laws.specs.Numbers.{is_truth}
use Rattle.mlir_printer.specs.Elements.{ValueText, Pending, first_operand, left_after}
use Rattle.mlir_printer.specs.Operations.{OperationText}
use Rattle.mlir_printer.specs.Modules.{PortText, ModuleText}
use Rattle.stored_form.specs.Limits.{IsInteger, IsAnyType, AreLiterals, IsEntry}
use Rattle.stored_form.specs.Bytes.{Each, AreBytes, MayBeBytes}

-- ---- what a reader reads

-- no number is number 0
abbrev pub said_number : Option ℕ → ℕ
said_number None = 0
said_number (Some n) = n

-- an operand as a reader reads it
abbrev pub said_operand : ValueText → OperandName
said_operand o = record { name = o.name; number = said_number o.number }

-- what is gathered of an operation
abbrev pub said_pending : Pending → Gathered
said_pending p = record { operands = map said_operand p.operands; types = p.types; inherent = p.inherent }

-- an operation as a reader reads it, at some location
abbrev pub said_operation : OperationText → OperationSaid
said_operation o = record {
  results = o.results;
  name = o.name;
  bin = o.bin;
  gathered = said_pending o.pending;
  dictionary = o.dictionary;
  location = start_location;
}

-- a port as a reader reads it
abbrev pub said_port : PortText → PortSaid
said_port p = record { value = p.value; name = p.name; type = p.type }

-- a module as a reader reads it, at some location
abbrev pub inherent_view : ModuleText → ModuleSaid
inherent_view m = record {
  symbol = m.symbol;
  is_private = m.is_private;
  ports = map said_port m.ports;
  dictionary = m.dictionary;
  operations = map said_operation m.operations;
  location = start_location;
  close = start_location;
}

-- ---- names, numbers, types

-- a name that may stand after `%`: one suffix, digits alone or none before
pub record IsValueName (name : Name) : Type 0 where
  -- it is not empty
  pub some : 1 ≤ length name
  -- a suffix at its prefix has all its bytes
  pub whole : suffix_length name ≡ length name

-- ---- constants of aggregates, attributes, dictionaries

-- a dictionary, where the values of some keys are strings
pub record IsDictionary (strings : List Name) (es : List Entry) : Type 0 where
  -- each key stands once
  pub once : AreOnce [] es
  -- each entry can be read
  pub each : Each (IsEntry strings) es

-- ---- pieces

-- a number within a pack is below its limit
abbrev pub IsNumber : Option ℕ → Type 0
IsNumber None = ⊤
IsNumber (Some n) = n < count_limit

-- an operand
pub record IsOperand (o : ValueText) : Type 0 where
  -- its name may stand after `%`
  pub name : IsValueName o.name
  -- so may its number after `#`
  pub number : IsNumber o.number

-- a token of one or two signs
abbrev pub IsMark : TokenKind → Type 0
IsMark kind.BareName = ⊥
IsMark kind.ValueName = ⊥
IsMark kind.SymbolName = ⊥
IsMark kind.SymbolString = ⊥
IsMark kind.Integer = ⊥
IsMark kind.StringLiteral = ⊥
IsMark kind.ResultNumber = ⊥
IsMark kind.AttributeAlias = ⊥
IsMark kind.TypeName = ⊥
IsMark kind.Minus = ⊥
IsMark _ = ⊤

-- there is a first type
abbrev pub HasType : List HwType → Type 0
HasType [] = ⊥
HasType (t ∷ ts) = IsAnyType t

-- two operands stand there
abbrev pub HasTwoOperands : List ValueText → Type 0
HasTwoOperands os = IsOperand (first_operand os) × IsOperand (first_operand (drop 1 os))

-- two operands stand after a reset
abbrev pub MayReset : InherentAttributes → List ValueText → Type 0
MayReset with_reset os = HasTwoOperands os
MayReset _ os = ⊤

-- two operands stand after a reset, synchronous or asynchronous
abbrev pub MaySyncOrAsyncReset : InherentAttributes → List ValueText → Type 0
MaySyncOrAsyncReset with_reset os = HasTwoOperands os
MaySyncOrAsyncReset with_async_reset os = HasTwoOperands os
MaySyncOrAsyncReset _ os = ⊤

-- a predicate is said
abbrev pub SaysPredicate : InherentAttributes → Type 0
SaysPredicate (predicate p) = ⊤
SaysPredicate _ = ⊥

-- a position below the limit is said
abbrev pub SaysPosition : InherentAttributes → Type 0
SaysPosition (position n) = n < count_limit
SaysPosition _ = ⊥

-- 0 or 1 is said
abbrev pub SaysTruth : InherentAttributes → Type 0
SaysTruth (number z) = is_truth z ≡ true
SaysTruth _ = ⊥

-- an integer is said
abbrev pub SaysInteger : InherentAttributes → Type 0
SaysInteger (number z) = IsInteger z
SaysInteger _ = ⊥

-- constants are said; their brackets have opened one list
abbrev pub SaysLiterals : InherentAttributes → Type 0
SaysLiterals (literals ls) = AreLiterals ls 31
SaysLiterals _ = ⊥

-- the name of a field is said
abbrev pub SaysField : InherentAttributes → Type 0
SaysField (field_name name) = AreBytes name
SaysField _ = ⊥

-- an instance with its operands and types
pub record IsInstance (i : Instance) (os : List ValueText) (ts : List HwType) : Type 0 where
  -- its name, its inner symbol, its module's symbol and the names of ports are bytes
  pub name : AreBytes i.name
  pub inner : MayBeBytes i.inner_symbol
  pub symbol : AreBytes i.symbol
  pub inputs : Each AreBytes i.inputs
  pub outputs : Each AreBytes i.outputs
  -- each operand and each type can be read
  pub operands : Each IsOperand os
  pub types : Each IsAnyType ts
  -- there is an operand for each input
  pub inputs_count : length os ≡ length i.inputs
  -- there is a type for each input and each output
  pub types_count : length ts ≡ length i.inputs + length i.outputs

-- an instance is said, with operands and types of its own
abbrev pub SaysInstance : InherentAttributes → List ValueText → List HwType → Type 0
SaysInstance (child i) os ts = IsInstance i os ts
SaysInstance _ os ts = ⊥

-- what a piece needs of what is left, where so much is gathered before
abbrev pub Needs : FormatElement → Pending → Gathered → Type 0
Needs (element.Mark k) p g = IsMark k
Needs (element.Word w) p g = ⊤
Needs element.Operand p g = IsOperand (first_operand p.operands)
Needs element.Operands p g = (1 ≤ length p.operands) × Each IsOperand p.operands
Needs element.Group p g = Each IsOperand p.operands
Needs element.Predicate p g = SaysPredicate p.inherent
Needs element.Number p g = SaysPosition p.inherent
Needs element.Truth p g = SaysTruth p.inherent
Needs element.Integer p g = SaysInteger p.inherent
Needs element.Literals p g = SaysLiterals p.inherent
Needs element.Field p g = SaysField p.inherent
Needs element.Instance p g = SaysInstance p.inherent p.operands p.types
Needs element.Reset p g = MayReset p.inherent p.operands
Needs element.SyncOrAsyncReset p g = MaySyncOrAsyncReset p.inherent p.operands
Needs element.Type p g = HasType p.types
Needs element.Types p g = (length p.types ≡ length g.operands) × Each IsAnyType p.types

-- the first type, where there is one
abbrev pub first_type : List HwType → List HwType
first_type [] = []
first_type (t ∷ ts) = t ∷ []

-- what is gathered with two operands of a reset
abbrev pub gathered_operands_of_reset : InherentAttributes → List ValueText → Gathered → Gathered
gathered_operands_of_reset e os g =
    with_inherent (with_operands g (said_operand (first_operand os) ∷ said_operand (first_operand (drop 1 os)) ∷ [])) e

-- what is gathered with a reset
abbrev pub gathered_reset : InherentAttributes → List ValueText → Gathered → Gathered
gathered_reset with_reset os g = gathered_operands_of_reset with_reset os g
gathered_reset _ os g = g

-- what is gathered with a reset, synchronous or asynchronous
abbrev pub gathered_sync_or_async_reset : InherentAttributes → List ValueText → Gathered → Gathered
gathered_sync_or_async_reset with_reset os g = gathered_operands_of_reset with_reset os g
gathered_sync_or_async_reset with_async_reset os g = gathered_operands_of_reset with_async_reset os g
gathered_sync_or_async_reset _ os g = g

-- what is gathered with a piece of what is left, where so much is gathered before
abbrev pub gathered_with : FormatElement → Pending → Gathered → Gathered
gathered_with (element.Mark k) p g = g
gathered_with (element.Word w) p g = g
gathered_with element.Operand p g = with_operands g (said_operand (first_operand p.operands) ∷ [])
gathered_with element.Operands p g = with_operands g (map said_operand p.operands)
gathered_with element.Group p g = with_operands g (map said_operand p.operands)
gathered_with element.Truth p g = with_inherent (with_types g (int 1 ∷ [])) p.inherent
gathered_with element.Predicate p g = with_inherent g p.inherent
gathered_with element.Number p g = with_inherent g p.inherent
gathered_with element.Integer p g = with_inherent g p.inherent
gathered_with element.Literals p g = with_inherent g p.inherent
gathered_with element.Field p g = with_inherent g p.inherent
gathered_with element.Instance p g = with_inherent (with_types (with_operands g (map said_operand p.operands)) p.types) p.inherent
gathered_with element.Reset p g = gathered_reset p.inherent p.operands g
gathered_with element.SyncOrAsyncReset p g = gathered_sync_or_async_reset p.inherent p.operands g
gathered_with element.Type p g = with_types g (first_type p.types)
gathered_with element.Types p g = with_types g p.types

-- what is gathered with pieces
abbrev pub gathered_with_all : List FormatElement → Pending → Gathered → Gathered
gathered_with_all [] p g = g
gathered_with_all (x ∷ xs) p g = gathered_with_all xs (left_after x p) (gathered_with x p g)

-- what pieces need
abbrev pub NeedAll : List FormatElement → Pending → Gathered → Type 0
NeedAll [] p g = ⊤
NeedAll (x ∷ xs) p g = Needs x p g × NeedAll xs (left_after x p) (gathered_with x p g)
