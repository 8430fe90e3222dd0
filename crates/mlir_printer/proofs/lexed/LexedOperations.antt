-- Operations are read as they are printed.
use Rattle.std.proofs.Common.{◌≡◌, inl, ℕ, Bool, true, false, cond, List, [], ◌∷◌, ◌++◌, map, Option, Some, None, refl, ap, subst, append_assoc}
use Rattle.std.specs.Prelude.{codes}
use Rattle.diag.specs.Location.{start_location}
use Rattle.opcode.specs.Listed.{name_of_listed}
use Rattle.diag.specs.declared.refusal.Location.{Location}
use Rattle.opcode.specs.declared.listed.Listed.{Listed}
use Rattle.opcode.specs.declared.listed.Listed.TheVariants as listed
use Rattle.hw_model.specs.Types.{Name}
use Rattle.hw_model.specs.Design.{Entry}
use Rattle.mlir_lexer.specs.Tokens.{TextToken}
use Rattle.mlir_lexer.specs.declared.token.TokenKind.{TokenKind}
use Rattle.mlir_lexer.specs.declared.token.TokenKind.TheVariants as kind
use Rattle.mlir_operations.specs.OperandText.{ResultNames}
use Rattle.mlir_operations.specs.OperandText.ResultNames.{no_names, names, pack}
use Rattle.assembly_format.specs.Formats.{format_of, prefix_elements, type_elements}
use Rattle.mlir_operations.specs.ElementText.{Gathered, gathered_nothing}
use Rattle.stored_form.specs.Dictionaries.{string_keys, takes_bin}
use Rattle.mlir_syntax.specs.Spelling.{One, MaybeDictionary}
use Rattle.mlir_operations.specs.Spelling.{Stands, ResultsPhrase, ElementsPhrase, IsOneOf, FormPhrase, BinPhrase, MayHaveFormat, OperationPhrase, OperationsPhrase, ValueName}
use Rattle.assembly_format.specs.declared.elements.FormatElement.{FormatElement}
use Rattle.assembly_format.specs.declared.elements.Format.{Format}
use Rattle.assembly_format.specs.declared.elements.Format.TheVariants as format
use Rattle.mlir_printer.specs.Strings.{is_bare}
use Rattle.mlir_printer.specs.Attributes.{dictionary_bytes}
use Rattle.mlir_printer.specs.Elements.{Pending, ValueText, value_name_bytes, elements_bytes}
use Rattle.mlir_printer.specs.Operations.{OperationText, results_bytes, bin_bytes, is_truth_view, output_format, format_shown, after_blank, left_after_all, form_bytes, shaped_bytes, operation_bytes, operation_line, operation_lines}
use Rattle.mlir_printer.specs.Spellable.{IsDictionary, said_pending, said_operation}
use Rattle.mlir_printer.specs.SpellableModules.{AreResults, gathered_prefix, IsViewAs, IsSpellableOperation, AreSpellable}
use Rattle.mlir_printer.proofs.lexed.LexedTexts.{Stops, Whole, Lexed, lexed, lexed_as, whole_as, then, then_on, then_whole, closed, nothing, blank, blank_on, line_after, after_nothing, with_nothing, colon_mark}
use Rattle.mlir_printer.proofs.lexed.LexedNames.{bare_lexed, value_name_lexed}
use Rattle.mlir_printer.proofs.lexed.LexedNumbers.{count_lexed}
use Rattle.mlir_printer.proofs.lexed.LexedCommas.{blank_equals, commas_lexed, each_of}
use Rattle.mlir_printer.proofs.lexed.LexedAttributes.{dictionary_lexed}
use Rattle.mlir_printer.proofs.lexed.LexedElements.{elements_lexed, elements_stop, stops_at, is_parted}

-- locations are not told
abbrev pub Anywhere : Stands
Anywhere t location = Unit {0}

-- ---- names of results

-- the names of results are read as themselves
pub results_whole : (r : ResultNames) → AreResults r → Whole (ResultsPhrase r) (results_bytes r)
unfolding results_bytes
results_whole no_names h = nothing
results_whole (names n ns) h =
    closed 32 (codes "= ") (commas_lexed ValueName value_name_bytes (n ∷ ns) (each_of value_name_lexed (n ∷ ns) h)) blank_equals refl
results_whole (pack n k) h =
    closed 58 _ (value_name_lexed n h.0) (then_whole colon_mark (closed 32 (codes "= ") (count_lexed k h.1) blank_equals refl)) refl

-- ---- names of operations

name_bare : (o : Listed) → is_bare (name_of_listed o) ≡ true
unfolding name_of_listed
name_bare listed.HwModule = refl
name_bare _ = refl

pub operation_name : (o : Listed) (location : Location)
    → Lexed (One (λ (t : TextToken). (t.kind ≡ kind.BareName) × (t.text ≡ name_of_listed o) × Anywhere t location)) (name_of_listed o)
operation_name o location = lexed_as (λ ts w. (w.0, w.1, (w.2.0, w.2.1, tt))) (bare_lexed (name_of_listed o) (name_bare o))

-- ---- forms

-- the pieces of each form can be told apart, and no token goes on into those before its types
format_parts : (s : Format) → (is_parted (prefix_elements s) ≡ true) × (is_parted (type_elements s) ≡ true) × (stops_at (type_elements s) ≡ true)
unfolding prefix_elements type_elements
format_parts format.Variadic = (refl, refl, refl)
format_parts format.Binary = (refl, refl, refl)
format_parts format.Comparison = (refl, refl, refl)
format_parts format.Unary = (refl, refl, refl)
format_parts format.Extraction = (refl, refl, refl)
format_parts format.Joined = (refl, refl, refl)
format_parts format.Conversion = (refl, refl, refl)
format_parts format.Choice = (refl, refl, refl)
format_parts format.Truth = (refl, refl, refl)
format_parts format.Integer = (refl, refl, refl)
format_parts format.Aggregate = (refl, refl, refl)
format_parts format.Element = (refl, refl, refl)
format_parts format.Slice = (refl, refl, refl)
format_parts format.ElementChange = (refl, refl, refl)
format_parts format.Struct = (refl, refl, refl)
format_parts format.Field = (refl, refl, refl)
format_parts format.FieldChange = (refl, refl, refl)
format_parts format.Instance = (refl, refl, refl)
format_parts format.Nothing = (refl, refl, refl)
format_parts format.Register = (refl, refl, refl)
format_parts format.EnabledRegister = (refl, refl, refl)
format_parts format.ClockedRegister = (refl, refl, refl)

-- a token that is a name of a kind
sample : TokenKind → TextToken
sample k = record { kind = k; location = start_location; at = 0; text = [] }

constant_format : (b : Bool) → MayHaveFormat listed.HwConstant (cond b format.Truth format.Integer)
unfolding format_of sample
constant_format true = (Some (sample kind.BareName), refl)
constant_format false = (None, refl)

output_may : (os : List ValueText) → MayHaveFormat listed.HwOutput (output_format os)
unfolding format_of sample
output_may [] = (None, refl)
output_may (o ∷ os) = (Some (sample kind.ValueName), refl)

-- the form of an operation is one that it has before some token
may_have : (o : Listed) (p : Pending) → MayHaveFormat o (format_shown o p)
unfolding format_shown
may_have listed.HwConstant p = constant_format (is_truth_view p.types p.inherent)
may_have listed.HwOutput p = output_may p.operands
may_have _ p = (None, refl)

prefix_lexed : (xs : List FormatElement) (p : Pending) (g h : Gathered) → Lexed (ElementsPhrase xs g h) (elements_bytes xs p)
    → Lexed (ElementsPhrase xs g h) (after_blank xs (elements_bytes xs p))
prefix_lexed [] p g h one = one
prefix_lexed (x ∷ xs) p g h one = blank_on one

-- a dictionary where there is an entry
given : List Entry → Option (List Entry)
given [] = None
given (e ∷ es) = Some (e ∷ es)

given_once : (es : List Entry) → IsOneOf (given es) None es
unfolding given
given_once [] = refl
given_once (e ∷ es) = (refl, refl)

given_lexed : (strings : List Name) (es : List Entry) → IsDictionary strings es
    → Lexed (MaybeDictionary strings (given es)) (dictionary_bytes (codes " ") es)
unfolding given dictionary_bytes
given_lexed strings [] h = lexed nothing
given_lexed strings (e ∷ es) h = blank_on (lexed (dictionary_lexed strings (e ∷ es) h))

pub dictionary_stops : (prefix : List ℕ) → ((rest : List ℕ) → Stops (prefix ++ rest)) → (es : List Entry) (rest : List ℕ) → Stops rest
    → Stops (dictionary_bytes prefix es ++ rest)
unfolding dictionary_bytes
dictionary_stops prefix first [] rest stops = stops
dictionary_stops prefix first (e ∷ es) rest stops = rw (append_assoc prefix _ rest) (first _)

prefix_stops : (xs : List FormatElement) (p : Pending) (rest : List ℕ) → Stops rest → Stops (after_blank xs (elements_bytes xs p) ++ rest)
prefix_stops [] p rest stops = stops
prefix_stops (x ∷ xs) p rest stops = refl

-- what stands after the pieces before the types
after_stops : (s : Format) (p : Pending) (es : List Entry) → IsViewAs s p
    → Stops (dictionary_bytes (codes " ") es ++ elements_bytes (type_elements s) (left_after_all (prefix_elements s) p))
after_stops s p es h =
    dictionary_stops (codes " ") (λ rest. refl) es (elements_bytes (type_elements s) (left_after_all (prefix_elements s) p))
    (elements_stop (type_elements s) (left_after_all (prefix_elements s) p) (gathered_prefix s p) h.types (format_parts s).2)

form_stops : (s : Format) (p : Pending) (es : List Entry) → IsViewAs s p → Stops (form_bytes (prefix_elements s) (type_elements s) p es)
unfolding form_bytes
form_stops s p es h = prefix_stops (prefix_elements s) p _ (after_stops s p es h)

-- a form is read as itself
form_lexed : (strings : List Name) (s : Format) (p : Pending) (es : List Entry) → IsViewAs s p → IsDictionary strings es
    → Lexed (FormPhrase strings s (said_pending p) es) (form_bytes (prefix_elements s) (type_elements s) p es)
unfolding form_bytes
form_lexed strings s p es h d =
    let types = elements_lexed (type_elements s) (left_after_all (prefix_elements s) p) (gathered_prefix s p) h.types (format_parts s).1 in
    let inherent_view = subst (λ x. Lexed (ElementsPhrase (type_elements s) (gathered_prefix s p) x)
    (elements_bytes (type_elements s) (left_after_all (prefix_elements s) p))) h.all types in
    let following = then (given_lexed strings es d) (lexed_as with_nothing inherent_view)
    (elements_stop (type_elements s) (left_after_all (prefix_elements s) p) (gathered_prefix s p) h.types (format_parts s).2) in
    let prefix = prefix_lexed (prefix_elements s) p gathered_nothing (gathered_prefix s p)
    (elements_lexed (prefix_elements s) p gathered_nothing h.prefix (format_parts s).0) in
    lexed_as (λ ts w. (gathered_prefix s p, given es, None, given_once es, w)) (then prefix following (after_stops s p es h))

-- ---- operations

bin_lexed : (o : Listed) (b : Bool) → (b ≡ true → takes_bin o ≡ true) → Lexed (BinPhrase o b) (bin_bytes b)
unfolding bin_bytes
bin_lexed o true h = lexed_as (λ ts w. (h refl, w)) (blank_on (bare_lexed (codes "bin") refl))
bin_lexed o false h = lexed nothing

bin_stops : (b : Bool) (rest : List ℕ) → Stops rest → Stops (bin_bytes b ++ rest)
unfolding bin_bytes
bin_stops true rest stops = refl
bin_stops false rest stops = stops

-- an operation is read as itself
pub operation_lexed : (o : OperationText) → IsSpellableOperation o → Lexed (OperationPhrase Anywhere (said_operation o)) (operation_bytes o)
unfolding operation_bytes shaped_bytes
operation_lexed o h =
    let s = format_shown o.name o.pending in
    let form = form_lexed (string_keys o.name) s o.pending o.dictionary h.form h.dictionary in
    let tail = lexed_as (λ ts w. (s, may_have o.name o.pending, w)) form in
    let stops = form_stops s o.pending o.dictionary h.form in
    let name = then (operation_name o.name start_location) (then (bin_lexed o.name o.bin h.bin) tail stops) (bin_stops o.bin _ stops) in
    lexed_as (λ ts w. (h.stands, w)) (then_on (results_whole o.results h.results) name)

line_whole : (o : OperationText) → IsSpellableOperation o → Whole (OperationPhrase Anywhere (said_operation o)) (operation_line o)
unfolding operation_line
line_whole o h =
    whole_as after_nothing (then_whole (blank (codes "    ") (inl refl, (inl refl, (inl refl, (inl refl, tt))))) (line_after (operation_lexed o h)))

-- the operations of a body are read as themselves
pub operations_whole : (os : List OperationText) → AreSpellable os → Whole (OperationsPhrase Anywhere (map said_operation os)) (operation_lines os)
operations_whole [] h = nothing
operations_whole (o ∷ os) h =
    whole_as (λ ts w. ((λ e. ap (map said_operation) (h.1 e)), w)) (then_whole (line_whole o h.0) (operations_whole os h.2))
