-- The grammar of operations, modules and files: which tokens say what (MLIR language reference; CIRCT: assembly formats of HW, Comb and Seq).
-- Tokens have their locations.
use Rattle.std.specs.Prelude.{◌≡◌, ℕ, ◌<◌, Bool, true, false, List, [], ◌∷◌, ◌++◌, length, Option, Some, None, Result, Ok, codes, ℤ}
use Rattle.diag.specs.declared.refusal.Location.{Location}
use Rattle.diag.specs.declared.refusal.Refusal.{Refusal}
use Rattle.opcode.specs.declared.listed.Listed.{Listed}
use Rattle.opcode.specs.declared.listed.Listed.TheVariants as listed
use Rattle.opcode.specs.Listed.{name_of_listed}
use Rattle.hw_model.specs.Types.{Name, HwType}
use Rattle.hw_model.specs.Types.HwType.{int}
use Rattle.hw_model.specs.TypeViews.{NamedType}
use Rattle.hw_model.specs.Kinds.{Predicate, Literals}
use Rattle.hw_model.specs.Design.{Entry}
use Rattle.mlir_lexer.specs.Contents.{content_of}
use Rattle.mlir_lexer.specs.Tokens.{TextToken}
use Rattle.mlir_lexer.specs.declared.token.TokenKind.TheVariants as kind
use Rattle.mlir_syntax.specs.Spelling.{Phrase, One, Mark, Word, Holding, Nothing, Then, Either, Where, Commas, Between, NamePhrase, SymbolPhrase, NumberPhrase, IntegerPhrase, FieldPhrase, TypePhrase}
use Rattle.mlir_syntax.specs.Spelling.{TruthWord, DictionaryPhrase, AggregatePhrase, MaybeDictionary}
use Rattle.mlir_syntax.specs.Numerals.{number_in, count_limit}
use Rattle.mlir_syntax.specs.TypeText.{most_open}
use Rattle.mlir_operations.specs.OperandText.{OperandName, ResultNames}
use Rattle.mlir_operations.specs.OperandText.ResultNames.{no_names, names, pack}
use Rattle.assembly_format.specs.Formats.{text_of_keyword, format_of, prefix_elements, type_elements}
use Rattle.mlir_operations.specs.ElementText.{InherentAttributes, Gathered, gathered_nothing, with_operands, with_types, with_inherent, truth_number, Joined, instance_with, with_instance}
use Rattle.mlir_syntax.specs.WordText.{predicate_named}
use Rattle.mlir_operations.specs.ElementText.InherentAttributes.{with_reset, with_async_reset, predicate, position, number, literals, field_name}
use Rattle.mlir_operations.specs.OperationText.{OperationText, is_last, given_entries}
use Rattle.stored_form.specs.Dictionaries.{takes_bin, string_keys}
use Rattle.mlir_operations.specs.ModuleText.{PortText, ModuleText}
use Rattle.stored_form.specs.Dictionaries.{module_keys}
use Rattle.assembly_format.specs.declared.elements.FormatElement.{FormatElement}
use Rattle.assembly_format.specs.declared.elements.FormatElement.TheVariants as element
use Rattle.assembly_format.specs.declared.elements.Format.{Format}

-- ---- values

abbrev pub ValueName : Name → Phrase
ValueName name = Holding kind.ValueName name

-- `%v`, `%v#i`
abbrev pub OperandPhrase : OperandName → Phrase
OperandPhrase o =
    Then (ValueName o.name)
    (Either (Where (o.number ≡ 0) Nothing)
    (Where (o.number < count_limit) (One (λ (t : TextToken). (t.kind ≡ kind.ResultNumber) × (number_in 10 0 (content_of kind.ResultNumber t.text) ≡ o.number)))))

-- `%x =`, `%a, %b =`, `%x:k =`, or nothing
abbrev pub ResultsPhrase : ResultNames → Phrase
ResultsPhrase no_names = Nothing
ResultsPhrase (names n ns) = Then (Commas ValueName (n ∷ ns)) (Mark kind.Equals)
ResultsPhrase (pack n k) = Then (ValueName n) (Then (Mark kind.Colon) (Then (NumberPhrase count_limit k) (Mark kind.Equals)))

-- ---- pieces of operations: what is gathered grows from one piece to the next

-- `reset sync`
abbrev pub ResetSync : Phrase
ResetSync = Then (Word (codes "reset")) (Word (codes "sync"))

-- `reset async`
abbrev pub ResetAsync : Phrase
ResetAsync = Then (Word (codes "reset")) (Word (codes "async"))

-- `reset %r, %v` with these words, which say what reset it is
abbrev pub ResetPhrase : Phrase → InherentAttributes → Gathered → Gathered → Phrase
ResetPhrase Reset e g h ts =
    (r v : OperandName) × (h ≡ with_inherent (with_operands g (r ∷ v ∷ [])) e)
    × Then Reset (Then (OperandPhrase r) (Then (Mark kind.Comma) (OperandPhrase v))) ts

-- `p: %v: T`
abbrev pub InputPhrase : Joined → Phrase
InputPhrase j =
    Then (NamePhrase j.port) (Then (Mark kind.Colon) (Then (OperandPhrase j.operand) (Then (Mark kind.Colon) (TypePhrase most_open j.type))))

-- `q: T`
abbrev pub OutputPhrase : NamedType → Phrase
OutputPhrase q = FieldPhrase (TypePhrase most_open) q

-- `sym @s`, or nothing
abbrev pub InnerSymbol : Option Name → Phrase
InnerSymbol None = Nothing
InnerSymbol (Some name) = Then (Word (codes "sym")) (SymbolPhrase name)

-- `"u" [sym @s] @N(p: %v: T, ..) -> (q: T, ..)`
abbrev pub InstancePhrase : Gathered → Gathered → Phrase
InstancePhrase g h ts =
    (name symbol : Name) × (inner : Option Name) × (ins : List Joined) × (outs : List NamedType)
    × (h ≡ with_instance g (instance_with name inner symbol ins outs) ins outs)
    × Then (Holding kind.StringLiteral name) (Then (InnerSymbol inner) (Then (SymbolPhrase symbol)
    (Then (Between kind.LeftParenthesis kind.RightParenthesis (Commas InputPhrase ins))
    (Then (Mark kind.Arrow) (Between kind.LeftParenthesis kind.RightParenthesis (Commas OutputPhrase outs)))))) ts

-- a piece, between what is gathered before it and with it
abbrev pub FormatElementPhrase : FormatElement → Gathered → Gathered → Phrase
FormatElementPhrase (element.Mark k) g h = Where (h ≡ g) (Mark k)
FormatElementPhrase (element.Word w) g h = Where (h ≡ g) (Word (text_of_keyword w))
FormatElementPhrase element.Operand g h = λ ts. (o : OperandName) × (h ≡ with_operands g (o ∷ [])) × OperandPhrase o ts
FormatElementPhrase element.Operands g h = λ ts. (o : OperandName) × (os : List OperandName) × (h ≡ with_operands g (o ∷ os)) × Commas OperandPhrase (o ∷ os) ts
FormatElementPhrase element.Group g h =
    λ ts. (os : List OperandName) × (h ≡ with_operands g os) × Between kind.LeftParenthesis kind.RightParenthesis (Commas OperandPhrase os) ts
FormatElementPhrase element.Predicate g h =
    λ ts. (p : Predicate) × (name : Name) × (h ≡ with_inherent g (predicate p)) × (predicate_named name ≡ Some p) × Word name ts
FormatElementPhrase element.Number g h = λ ts. (n : ℕ) × (h ≡ with_inherent g (position n)) × NumberPhrase count_limit n ts
FormatElementPhrase element.Truth g h =
    λ ts. (b : Bool) × (h ≡ with_inherent (with_types g (int 1 ∷ [])) (number (truth_number b))) × TruthWord b ts
FormatElementPhrase element.Integer g h = λ ts. (z : ℤ) × (h ≡ with_inherent g (number z)) × IntegerPhrase z ts
FormatElementPhrase element.Literals g h = λ ts. (ls : Literals) × (h ≡ with_inherent g (literals ls)) × AggregatePhrase ls ts
FormatElementPhrase element.Field g h = λ ts. (name : Name) × (h ≡ with_inherent g (field_name name)) × Holding kind.StringLiteral name ts
FormatElementPhrase element.Instance g h = InstancePhrase g h
FormatElementPhrase element.Reset g h = Either (ResetPhrase (Word (codes "reset")) with_reset g h) (Where (h ≡ g) Nothing)
FormatElementPhrase element.SyncOrAsyncReset g h =
    Either (ResetPhrase ResetSync with_reset g h) (Either (ResetPhrase ResetAsync with_async_reset g h) (Where (h ≡ g) Nothing))
FormatElementPhrase element.Type g h = λ ts. (t : HwType) × (h ≡ with_types g (t ∷ [])) × TypePhrase most_open t ts
FormatElementPhrase element.Types g h =
    λ ts. (l : List HwType) × (h ≡ with_types g l) × (length l ≡ length g.operands) × Commas (TypePhrase most_open) l ts

-- pieces, one after another
abbrev pub ElementsPhrase : List FormatElement → Gathered → Gathered → Phrase
ElementsPhrase [] g h = Where (h ≡ g) Nothing
ElementsPhrase (p ∷ ps) g h = λ ts. (m : Gathered) × Then (FormatElementPhrase p g m) (ElementsPhrase ps m h) ts

-- ---- operations

-- a dictionary stands once, before the types or after them, or not at all
abbrev pub IsOneOf : Option (List Entry) → Option (List Entry) → List Entry → Type 0
IsOneOf (Some es) late all = (late ≡ None) × (all ≡ es)
IsOneOf None late all = all ≡ given_entries late

-- the pieces of a form, and one dictionary at most, before the types or after them
abbrev pub FormPhrase : List Name → Format → Gathered → List Entry → Phrase
FormPhrase strings format h es ts =
    (g : Gathered) × (early late : Option (List Entry)) × IsOneOf early late es
    × Then (ElementsPhrase (prefix_elements format) gathered_nothing g) (Then (MaybeDictionary strings early)
    (Then (ElementsPhrase (type_elements format) g h) (MaybeDictionary strings late))) ts

-- the mark `bin`, or nothing
abbrev pub BinPhrase : Listed → Bool → Phrase
BinPhrase o false = Nothing
BinPhrase o true = Where (takes_bin o ≡ true) (Word (codes "bin"))

-- a form that an operation has before some token
abbrev pub MayHaveFormat : Listed → Format → Type 0
MayHaveFormat o format = (next : Option TextToken) × (format ≡ format_of o next)

-- what is after an operation's name
abbrev pub TailPhrase : OperationText → Phrase
TailPhrase o ts = (format : Format) × MayHaveFormat o.name format × FormPhrase (string_keys o.name) format o.gathered o.dictionary ts

-- a location is that of a token
abbrev pub Stands : Type 1
Stands = TextToken → Location → Type 0

-- an operation that may stand in a body: each but the module itself
abbrev pub StandsInBody : Listed → Type 0
StandsInBody listed.HwModule = ⊥
StandsInBody _ = Unit {0}

-- an operation, at the location of its name
abbrev pub OperationPhrase : Stands → OperationText → Phrase
OperationPhrase At o =
    Where (StandsInBody o.name) (Then (ResultsPhrase o.results)
    (Then (One (λ (t : TextToken). (t.kind ≡ kind.BareName) × (t.text ≡ name_of_listed o.name) × At t o.location))
    (Then (BinPhrase o.name o.bin) (TailPhrase o))))

-- operations one after another; an output is the last
abbrev pub OperationsPhrase : Stands → List OperationText → Phrase
OperationsPhrase At [] = Nothing
OperationsPhrase At (o ∷ os) = Where (is_last o.name ≡ true → os ≡ []) (Then (OperationPhrase At o) (OperationsPhrase At os))

-- ---- modules

-- `in %v ["name"] : T`, `out name : T`
abbrev pub PortPhrase : PortText → Phrase
PortPhrase p =
    Either (λ ts. (v : Name) × (p.value ≡ Some v)
    × Then (Word (codes "in")) (Then (ValueName v)
    (Then (Either (Holding kind.StringLiteral p.name) (Where (p.name ≡ v) Nothing)) (Then (Mark kind.Colon) (TypePhrase most_open p.type)))) ts)
    (Where (p.value ≡ None) (Then (Word (codes "out")) (Then (NamePhrase p.name) (Then (Mark kind.Colon) (TypePhrase most_open p.type)))))

-- `%v : T`, an input of the older header
abbrev pub OlderInputPhrase : PortText → Phrase
OlderInputPhrase p ts =
    (v : Name) × (p.value ≡ Some v) × (p.name ≡ v) × Then (ValueName v) (Then (Mark kind.Colon) (TypePhrase most_open p.type)) ts

-- `name : T`, an output of the older header
abbrev pub OlderOutputPhrase : PortText → Phrase
OlderOutputPhrase p = Where (p.value ≡ None) (Then (NamePhrase p.name) (Then (Mark kind.Colon) (TypePhrase most_open p.type)))

-- `-> (OUTPUTS)`, or nothing
abbrev pub OlderOutputsPhrase : List PortText → Phrase
OlderOutputsPhrase ps =
    Either (Then (Mark kind.Arrow) (Between kind.LeftParenthesis kind.RightParenthesis (Commas OlderOutputPhrase ps))) (Where (ps ≡ []) Nothing)

-- `(INPUTS) [-> (OUTPUTS)]`
abbrev pub OlderPortsPhrase : List PortText → Phrase
OlderPortsPhrase ps ts =
    (inputs outputs : List PortText) × (ps ≡ inputs ++ outputs)
    × Then (Between kind.LeftParenthesis kind.RightParenthesis (Commas OlderInputPhrase inputs)) (OlderOutputsPhrase outputs) ts

-- `(PORTS)`, or the older header's, which says what `in %v : T` for each input and then `out name : T` for each output say
abbrev pub PortsPhrase : List PortText → Phrase
PortsPhrase ps = Either (Between kind.LeftParenthesis kind.RightParenthesis (Commas PortPhrase ps)) (OlderPortsPhrase ps)

-- `attributes {..}`, or nothing
abbrev pub AttributesPhrase : List Entry → Phrase
AttributesPhrase es = Either (Then (Word (codes "attributes")) (DictionaryPhrase module_keys es)) (Where (es ≡ []) Nothing)

-- `private`, or nothing
abbrev pub PrivatePhrase : Bool → Phrase
PrivatePhrase true = Word (codes "private")
PrivatePhrase false = Nothing

-- `hw.module [private] @N(PORTS) [attributes {..}] { OPERATIONS }`, or with `(INPUTS) [-> (OUTPUTS)]` for `(PORTS)`, with the locations
-- of its name and its closing brace
abbrev pub ModulePhrase : Stands → ModuleText → Phrase
ModulePhrase At m =
    Then (One (λ (t : TextToken). (t.kind ≡ kind.BareName) × (t.text ≡ name_of_listed listed.HwModule) × At t m.location))
    (Then (PrivatePhrase m.is_private) (Then (SymbolPhrase m.symbol)
    (Then (PortsPhrase m.ports)
    (Then (AttributesPhrase m.dictionary) (Then (Mark kind.LeftBrace) (Then (OperationsPhrase At m.operations)
    (One (λ (t : TextToken). (t.kind ≡ kind.RightBrace) × At t m.close))))))))

-- modules one after another
abbrev pub ModulesPhrase : Stands → List ModuleText → Phrase
ModulesPhrase At [] = Nothing
ModulesPhrase At (m ∷ ms) = Then (ModulePhrase At m) (ModulesPhrase At ms)

-- `module` or `builtin.module`
abbrev pub FileWord : Phrase
FileWord = Either (Word (codes "module")) (Word (codes "builtin.module"))

-- `module [@N] [attributes {..}] { MODULES }`, of which the symbol and the dictionary are not kept
abbrev pub WrappedPhrase : Stands → List ModuleText → Phrase
WrappedPhrase At ms ts =
    (es : List Entry)
    × Then FileWord (Then (Either (λ (a : List TextToken). (name : Name) × SymbolPhrase name a) Nothing)
    (Then (AttributesPhrase es) (Between kind.LeftBrace kind.RightBrace (ModulesPhrase At ms)))) ts

-- a file: modules, bare or in one module of the builtin dialect
abbrev pub FilePhrase : Stands → List ModuleText → Phrase
FilePhrase At ms = Either (ModulesPhrase At ms) (WrappedPhrase At ms)

-- ---- texts

-- a token that is not refused
abbrev pub token_of : TextToken → Result TextToken Refusal
token_of t = Ok t

-- a location is the token's own
abbrev pub IsLocationOf : Stands
IsLocationOf t location = t.location ≡ location
