-- Operations hold no line feeds, where the names of their values hold none.
use Rattle.std.proofs.Common.{ℕ, zero, suc, Bool, List, [], ◌∷◌, length, drop, Option, Some, None, refl}
use Rattle.std.specs.Prelude.{codes}
use Rattle.opcode.specs.declared.listed.Listed.{Listed}
use Rattle.opcode.specs.declared.listed.Listed.TheVariants.{HwModule, CombAdd, CombMul, CombAnd, CombOr, CombXor, CombSub, CombDivu, CombModu, CombDivs, CombMods, CombShl, CombShru, CombShrs, CombIcmp, CombParity, CombExtract, CombConcat, CombReplicate, CombMux, HwConstant, HwAggregateConstant, HwArrayCreate, HwArrayConcat, HwArrayGet, HwArraySlice, HwArrayInject, HwStructCreate, HwStructExtract, HwStructInject, HwStructExplode, HwBitcast, HwWire, HwInstance, HwOutput, SeqCompreg, SeqCompregCe, SeqFirreg}
use Rattle.opcode.specs.Listed.{name_of_listed}
use Rattle.hw_model.specs.Types.{Name, HwType}
use Rattle.hw_model.specs.TypeViews.{NamedType}
use Rattle.hw_model.specs.Kinds.{Predicate, Instance}
use Rattle.hw_model.specs.Kinds.Predicate.{eq, ne, slt, sle, sgt, sge, ult, ule, ugt, uge, ceq, cne, weq, wne}
use Rattle.hw_model.specs.Design.{Entry}
use Rattle.mlir_lexer.specs.declared.token.TokenKind.{TokenKind}
use Rattle.mlir_lexer.specs.declared.token.TokenKind.TheVariants as kind
use Rattle.assembly_format.specs.Formats.{prefix_elements, type_elements}
use Rattle.assembly_format.specs.declared.elements.Keyword.{Keyword}
use Rattle.assembly_format.specs.declared.elements.Keyword.TheVariants.{From, Clock}
use Rattle.assembly_format.specs.declared.elements.FormatElement.{FormatElement}
use Rattle.assembly_format.specs.declared.elements.FormatElement.TheVariants as element
use Rattle.assembly_format.specs.declared.elements.Format.{Format}
use Rattle.mlir_operations.specs.OperandText.{ResultNames}
use Rattle.mlir_operations.specs.OperandText.ResultNames.{no_names, names, pack}
use Rattle.mlir_operations.specs.ElementText.{InherentAttributes}
use Rattle.mlir_operations.specs.ElementText.InherentAttributes.{with_reset, with_async_reset, predicate, position, number, literals, field_name, child}
use Rattle.printing_laws.specs.Numbers.{is_one}
use Rattle.mlir_printer.specs.Types.{type_bytes}
use Rattle.mlir_printer.specs.Elements.{ValueText, Pending, InputText, value_name_bytes, pack_number_bytes, operand_bytes, first_operand, first_type_bytes, mark_bytes, word_bytes, predicate_bytes, predicate_said, position_said, truth_said, number_said, literals_said, field_said, reset_bytes, reset_said, sync_or_async_reset_said, input_bytes, output_bytes, inputs_joined, outputs_joined, inner_bytes, instance_head, connections_bytes, instance_bytes, instance_said, element_bytes, operands_taken, left_after, elements_bytes}
use Rattle.mlir_printer.specs.Operations.{OperationText, results_bytes, bin_bytes, after_blank, left_after_all, form_bytes, shaped_bytes, operation_bytes, format_shown}
use Rattle.mlir_printer.proofs.lines.QuietWords.{Quiet, both, after, word, none, either, count_quiet, integer_quiet, truth_quiet, string_quiet, name_quiet, symbol_quiet, commas_quiet, Every, every}
use Rattle.mlir_printer.proofs.lines.QuietTypes.{type_quiet, dictionary_quiet, literals_quiet}

-- ---- names of values

-- values whose names hold no line feeds
abbrev pub AreQuiet : List ValueText → Type 0
AreQuiet os = Every (λ (o : ValueText). Quiet o.name) os

pub value_name_quiet : (name : Name) → Quiet name → Quiet (value_name_bytes name)
unfolding value_name_bytes
value_name_quiet name h = after (codes "%") refl h

pack_quiet : (n : Option ℕ) → Quiet (pack_number_bytes n)
unfolding pack_number_bytes
pack_quiet None = none
pack_quiet (Some n) = after (codes "#") refl (count_quiet n)

operand_quiet : (o : ValueText) → Quiet o.name → Quiet (operand_bytes o)
unfolding operand_bytes
operand_quiet o h = both (value_name_quiet o.name h) (pack_quiet o.number)

operands_quiet : (os : List ValueText) → AreQuiet os → Every (λ o. Quiet (operand_bytes o)) os
operands_quiet [] h = tt
operands_quiet (o ∷ os) h = (operand_quiet o h.0, operands_quiet os h.1)

first_quiet : (os : List ValueText) → AreQuiet os → Quiet (operand_bytes (first_operand os))
first_quiet [] h = operand_quiet (first_operand []) none
first_quiet (o ∷ os) h = operand_quiet o h.0

dropped_quiet : (k : ℕ) (os : List ValueText) → AreQuiet os → AreQuiet (drop k os)
dropped_quiet zero os h = h
dropped_quiet (suc k) [] h = tt
dropped_quiet (suc k) (o ∷ os) h = dropped_quiet k os h.1

-- ---- words

mark_quiet : (k : TokenKind) → Quiet (mark_bytes k)
unfolding mark_bytes
mark_quiet kind.Arrow = word (codes " -> ") refl
mark_quiet kind.LeftParenthesis = word (codes "(") refl
mark_quiet kind.RightParenthesis = word (codes ")") refl
mark_quiet kind.LeftBrace = word (codes "{") refl
mark_quiet kind.RightBrace = word (codes "}") refl
mark_quiet kind.LeftBracket = word (codes "[") refl
mark_quiet kind.RightBracket = word (codes "]") refl
mark_quiet kind.Less = word (codes "<") refl
mark_quiet kind.Greater = word (codes ">") refl
mark_quiet kind.Colon = word (codes " : ") refl
mark_quiet kind.Comma = word (codes ", ") refl
mark_quiet kind.Equals = word (codes " = ") refl
mark_quiet kind.Minus = word (codes "-") refl
mark_quiet _ = none

keyword_quiet : (w : Keyword) → Quiet (word_bytes w)
unfolding word_bytes
keyword_quiet From = word (codes " from ") refl
keyword_quiet Clock = word (codes " clock ") refl

predicate_quiet : (p : Predicate) → Quiet (predicate_bytes p)
unfolding predicate_bytes
predicate_quiet eq = word (codes "eq") refl
predicate_quiet ne = word (codes "ne") refl
predicate_quiet slt = word (codes "slt") refl
predicate_quiet sle = word (codes "sle") refl
predicate_quiet sgt = word (codes "sgt") refl
predicate_quiet sge = word (codes "sge") refl
predicate_quiet ult = word (codes "ult") refl
predicate_quiet ule = word (codes "ule") refl
predicate_quiet ugt = word (codes "ugt") refl
predicate_quiet uge = word (codes "uge") refl
predicate_quiet ceq = word (codes "ceq") refl
predicate_quiet cne = word (codes "cne") refl
predicate_quiet weq = word (codes "weq") refl
predicate_quiet wne = word (codes "wne") refl

-- the name of an operation
listed_quiet : (o : Listed) → Quiet (name_of_listed o)
unfolding name_of_listed
listed_quiet HwModule = word _ refl
listed_quiet CombAdd = word _ refl
listed_quiet CombMul = word _ refl
listed_quiet CombAnd = word _ refl
listed_quiet CombOr = word _ refl
listed_quiet CombXor = word _ refl
listed_quiet CombSub = word _ refl
listed_quiet CombDivu = word _ refl
listed_quiet CombModu = word _ refl
listed_quiet CombDivs = word _ refl
listed_quiet CombMods = word _ refl
listed_quiet CombShl = word _ refl
listed_quiet CombShru = word _ refl
listed_quiet CombShrs = word _ refl
listed_quiet CombIcmp = word _ refl
listed_quiet CombParity = word _ refl
listed_quiet CombExtract = word _ refl
listed_quiet CombConcat = word _ refl
listed_quiet CombReplicate = word _ refl
listed_quiet CombMux = word _ refl
listed_quiet HwConstant = word _ refl
listed_quiet HwAggregateConstant = word _ refl
listed_quiet HwArrayCreate = word _ refl
listed_quiet HwArrayConcat = word _ refl
listed_quiet HwArrayGet = word _ refl
listed_quiet HwArraySlice = word _ refl
listed_quiet HwArrayInject = word _ refl
listed_quiet HwStructCreate = word _ refl
listed_quiet HwStructExtract = word _ refl
listed_quiet HwStructInject = word _ refl
listed_quiet HwStructExplode = word _ refl
listed_quiet HwBitcast = word _ refl
listed_quiet HwWire = word _ refl
listed_quiet HwInstance = word _ refl
listed_quiet HwOutput = word _ refl
listed_quiet SeqCompreg = word _ refl
listed_quiet SeqCompregCe = word _ refl
listed_quiet SeqFirreg = word _ refl

-- ---- what is said besides operands and types

predicate_said_quiet : (e : InherentAttributes) → Quiet (predicate_said e)
predicate_said_quiet (predicate p) = predicate_quiet p
predicate_said_quiet _ = none

position_said_quiet : (e : InherentAttributes) → Quiet (position_said e)
position_said_quiet (position n) = count_quiet n
position_said_quiet _ = none

truth_said_quiet : (e : InherentAttributes) → Quiet (truth_said e)
truth_said_quiet (number z) = truth_quiet (is_one z)
truth_said_quiet _ = none

number_said_quiet : (e : InherentAttributes) → Quiet (number_said e)
number_said_quiet (number z) = integer_quiet z
number_said_quiet _ = none

literals_said_quiet : (e : InherentAttributes) → Quiet (literals_said e)
literals_said_quiet (literals ls) = literals_quiet 0 ls
literals_said_quiet _ = none

field_said_quiet : (e : InherentAttributes) → Quiet (field_said e)
field_said_quiet (field_name name) = string_quiet name
field_said_quiet _ = none

reset_quiet : (words : List ℕ) → Quiet words → (os : List ValueText) → AreQuiet os → Quiet (reset_bytes words os)
reset_quiet words w os h = both w (both (first_quiet os h) (after (codes ", ") refl (first_quiet (drop 1 os) (dropped_quiet 1 os h))))

reset_said_quiet : (e : InherentAttributes) (os : List ValueText) → AreQuiet os → Quiet (reset_said e os)
reset_said_quiet with_reset os h = reset_quiet (codes " reset ") (word (codes " reset ") refl) os h
reset_said_quiet _ os h = none

sync_or_async_quiet : (e : InherentAttributes) (os : List ValueText) → AreQuiet os → Quiet (sync_or_async_reset_said e os)
sync_or_async_quiet with_reset os h = reset_quiet (codes " reset sync ") (word (codes " reset sync ") refl) os h
sync_or_async_quiet with_async_reset os h = reset_quiet (codes " reset async ") (word (codes " reset async ") refl) os h
sync_or_async_quiet _ os h = none

-- ---- instances

input_quiet : (j : InputText) → Quiet j.operand.name → Quiet (input_bytes j)
unfolding input_bytes
input_quiet j h = both (name_quiet j.port) (after (codes ": ") refl (both (operand_quiet j.operand h) (after (codes ": ") refl (type_quiet j.type))))

output_quiet : (q : NamedType) → Quiet (output_bytes q)
unfolding output_bytes
output_quiet q = both (name_quiet q.name) (after (codes ": ") refl (type_quiet q.type))

inputs_quiet : (ps : List Name) (os : List ValueText) (ts : List HwType) → AreQuiet os → Every (λ j. Quiet (input_bytes j)) (inputs_joined ps os ts)
inputs_quiet [] os ts h = tt
inputs_quiet (p ∷ ps) [] ts h = tt
inputs_quiet (p ∷ ps) (o ∷ os) [] h = tt
inputs_quiet (p ∷ ps) (o ∷ os) (t ∷ ts) h = (input_quiet (record { port = p; operand = o; type = t }) h.0, inputs_quiet ps os ts h.1)

inner_quiet : (name : Option Name) → Quiet (inner_bytes name)
unfolding inner_bytes
inner_quiet None = none
inner_quiet (Some name) = after (codes "sym ") refl (both (symbol_quiet name) (word (codes " ") refl))

head_quiet : (i : Instance) → Quiet (instance_head i)
unfolding instance_head
head_quiet i = both (string_quiet i.name) (after (codes " ") refl (both (inner_quiet i.inner_symbol) (symbol_quiet i.symbol)))

connections_quiet : (ins outs : List Name) (os : List ValueText) (ts : List HwType) → AreQuiet os → Quiet (connections_bytes ins outs os ts)
unfolding connections_bytes
connections_quiet ins outs os ts h =
    after (codes "(") refl (both (commas_quiet input_bytes (inputs_joined ins os ts) (inputs_quiet ins os ts h))
    (after (codes ") -> (") refl (both (commas_quiet output_bytes (outputs_joined outs (drop (length ins) ts)) (every output_quiet (outputs_joined outs (drop (length ins) ts)))) (word (codes ")") refl))))

instance_quiet : (i : Instance) (os : List ValueText) (ts : List HwType) → AreQuiet os → Quiet (instance_bytes i os ts)
unfolding instance_bytes
instance_quiet i os ts h = both (head_quiet i) (connections_quiet i.inputs i.outputs os ts h)

instance_said_quiet : (e : InherentAttributes) (os : List ValueText) (ts : List HwType) → AreQuiet os → Quiet (instance_said e os ts)
instance_said_quiet (child i) os ts h = instance_quiet i os ts h
instance_said_quiet _ os ts h = none

-- ---- elements

first_type_quiet : (ts : List HwType) → Quiet (first_type_bytes ts)
first_type_quiet [] = none
first_type_quiet (t ∷ ts) = type_quiet t

element_quiet : (x : FormatElement) (g : Pending) → AreQuiet g.operands → Quiet (element_bytes x g)
unfolding element_bytes
element_quiet (element.Mark k) g h = mark_quiet k
element_quiet (element.Word w) g h = keyword_quiet w
element_quiet element.Operand g h = first_quiet g.operands h
element_quiet element.Operands g h = commas_quiet operand_bytes g.operands (operands_quiet g.operands h)
element_quiet element.Group g h = after (codes "(") refl (both (commas_quiet operand_bytes g.operands (operands_quiet g.operands h)) (word (codes ")") refl))
element_quiet element.Predicate g h = both (predicate_said_quiet g.inherent) (word (codes " ") refl)
element_quiet element.Number g h = position_said_quiet g.inherent
element_quiet element.Truth g h = truth_said_quiet g.inherent
element_quiet element.Integer g h = number_said_quiet g.inherent
element_quiet element.Literals g h = after (codes "[") refl (both (literals_said_quiet g.inherent) (word (codes "]") refl))
element_quiet element.Field g h = field_said_quiet g.inherent
element_quiet element.Instance g h = instance_said_quiet g.inherent g.operands g.types h
element_quiet element.Reset g h = reset_said_quiet g.inherent g.operands h
element_quiet element.SyncOrAsyncReset g h = sync_or_async_quiet g.inherent g.operands h
element_quiet element.Type g h = first_type_quiet g.types
element_quiet element.Types g h = commas_quiet type_bytes g.types (every type_quiet g.types)

elements_quiet : (xs : List FormatElement) (g : Pending) → AreQuiet g.operands → Quiet (elements_bytes xs g)
elements_quiet [] g h = none
elements_quiet (x ∷ xs) g h = both (element_quiet x g h) (elements_quiet xs (left_after x g) (dropped_quiet (operands_taken x) g.operands h))

left_quiet : (xs : List FormatElement) (g : Pending) → AreQuiet g.operands → AreQuiet (left_after_all xs g).operands
left_quiet [] g h = h
left_quiet (x ∷ xs) g h = left_quiet xs (left_after x g) (dropped_quiet (operands_taken x) g.operands h)

-- ---- operations

-- names of results without line feeds
abbrev pub HasQuietNames : ResultNames → Type 0
HasQuietNames no_names = Unit {0}
HasQuietNames (names n ns) = Every Quiet (n ∷ ns)
HasQuietNames (pack n k) = Quiet n

-- an operation whose values have names without line feeds
pub record IsQuietOperation (o : OperationText) : Type 0 where
  pub results : HasQuietNames o.results
  pub operands : AreQuiet o.pending.operands

names_quiet : (ns : List Name) → Every Quiet ns → Every (λ n. Quiet (value_name_bytes n)) ns
names_quiet [] h = tt
names_quiet (n ∷ ns) h = (value_name_quiet n h.0, names_quiet ns h.1)

results_quiet : (r : ResultNames) → HasQuietNames r → Quiet (results_bytes r)
unfolding results_bytes
results_quiet no_names h = none
results_quiet (names n ns) h = both (commas_quiet value_name_bytes (n ∷ ns) (names_quiet (n ∷ ns) h)) (word (codes " = ") refl)
results_quiet (pack n k) h = both (value_name_quiet n h) (after (codes ":") refl (both (count_quiet k) (word (codes " = ") refl)))

bin_quiet : (b : Bool) → Quiet (bin_bytes b)
unfolding bin_bytes
bin_quiet b = either b (word (codes " bin") refl) none

blank_quiet : (xs : List FormatElement) (bytes : List ℕ) → Quiet bytes → Quiet (after_blank xs bytes)
blank_quiet [] bytes h = h
blank_quiet (x ∷ xs) bytes h = after (codes " ") refl h

form_quiet : (prefix types : List FormatElement) (g : Pending) (es : List Entry) → AreQuiet g.operands → Quiet (form_bytes prefix types g es)
unfolding form_bytes
form_quiet prefix types g es h =
    both (blank_quiet prefix (elements_bytes prefix g) (elements_quiet prefix g h))
    (both (dictionary_quiet (codes " ") es (word (codes " ") refl)) (elements_quiet types (left_after_all prefix g) (left_quiet prefix g h)))

shaped_quiet : (s : Format) (o : OperationText) → IsQuietOperation o → Quiet (shaped_bytes s o)
unfolding shaped_bytes
shaped_quiet s o h =
    both (results_quiet o.results h.results) (both (listed_quiet o.name) (both (bin_quiet o.bin) (form_quiet (prefix_elements s) (type_elements s) o.pending o.dictionary h.operands)))

pub operation_quiet : (o : OperationText) → IsQuietOperation o → Quiet (operation_bytes o)
unfolding operation_bytes
operation_quiet o h = shaped_quiet (format_shown o.name o.pending) o h
