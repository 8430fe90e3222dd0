-- Modules and whole files are read as they are printed.
use Rattle.std.proofs.Common.{◌≡◌, inl, inr, ℕ, Bool, true, false, cond, List, [], ◌∷◌, ◌++◌, map, Option, Some, None, refl, sym, ◌∙◌, ap, append_assoc}
use Rattle.std.specs.Prelude.{codes}
use Rattle.std.specs.Cmp.Lexicographic.{bytes_decides}
use Rattle.std.proofs.lemmas.List.{append-nil}
use Rattle.diag.specs.Location.{start_location}
use Rattle.opcode.specs.Listed.{name_of_listed}
use Rattle.opcode.specs.declared.listed.Listed.TheVariants as listed
use Rattle.hw_model.specs.Types.{Name, HwType}
use Rattle.hw_model.specs.Design.{Entry, same_name}
use Rattle.mlir_lexer.specs.Tokens.{TextToken, tokens_after}
use Rattle.mlir_lexer.specs.declared.token.TokenKind.TheVariants as kind
use Rattle.mlir_syntax.specs.TypeText.{most_open}
use Rattle.stored_form.specs.Dictionaries.{module_keys}
use Rattle.mlir_syntax.specs.Spelling.{One, Mark, Holding, Either, Where, Nothing, Commas, Between}
use Rattle.mlir_operations.specs.Spelling.{PortPhrase, PortsPhrase, AttributesPhrase, PrivatePhrase, ModulePhrase, ModulesPhrase, FileWord, FilePhrase, token_of}
use Rattle.mlir_printer.specs.Strings.{symbol_bytes, string_bytes}
use Rattle.mlir_printer.specs.Commas.{commas}
use Rattle.mlir_printer.specs.Attributes.{dictionary_bytes}
use Rattle.mlir_printer.specs.Modules.{PortText, ModuleText, port_name_bytes, input_port_bytes, output_port_bytes, port_bytes_by, port_bytes, private_bytes, header_bytes, module_bytes, modules_bytes, file_bytes}
use Rattle.mlir_printer.specs.Spellable.{IsDictionary, inherent_view, said_port}
use Rattle.stored_form.specs.Bytes.{Each, AreBytes}
use Rattle.stored_form.specs.Limits.{IsAnyType}
use Rattle.mlir_printer.specs.SpellableModules.{MayBeValue, IsSpellablePort, IsSpellable, AreSpelled}
use Rattle.mlir_printer.proofs.lexed.LexedTexts.{Stops, Whole, Lexed, lexed, lexed_as, whole_as, whole_by, then, then_on, then_whole, closed, nothing, blank_on, blank_on_whole, blank_after}
use Rattle.mlir_printer.proofs.lexed.LexedTexts.{line_after, left_brace, right_brace, left_parenthesis, right_parenthesis}
use Rattle.mlir_printer.proofs.lexed.LexedStrings.{string_lexed}
use Rattle.mlir_printer.proofs.lexed.LexedNames.{bare_lexed, name_lexed, symbol_lexed, value_name_lexed}
use Rattle.mlir_printer.proofs.lexed.LexedCommas.{blank_colon, commas_lexed, between, each_of}
use Rattle.mlir_printer.proofs.lexed.LexedTypes.{type_lexed}
use Rattle.mlir_printer.proofs.lexed.LexedAttributes.{dictionary_lexed}
use Rattle.mlir_printer.proofs.lexed.LexedOperands.{commas_said}
use Rattle.mlir_printer.proofs.lexed.LexedOperations.{Anywhere, operation_name, operations_whole}

-- ---- ports

-- `"name"`, or nothing where a port is called as its value
port_name_lexed : (v name : Name) → AreBytes name
    → Lexed (Either (Holding kind.StringLiteral name) (Where (name ≡ v) Nothing)) (port_name_bytes v name)
unfolding port_name_bytes
port_name_lexed v name small = go (same_name v name) refl
  where
    go : (b : Bool) → same_name v name ≡ b
        → Lexed (Either (Holding kind.StringLiteral name) (Where (name ≡ v) Nothing)) (cond b [] (codes " " ++ string_bytes name))
    go true e = lexed_as (λ ts w. inr (sym ((bytes_decides v name).0 e), w)) (lexed nothing)
    go false e = lexed_as (λ ts w. inl w) (blank_on (lexed (string_lexed name small)))

port_name_stops : (v name rest : List ℕ) → Stops rest → Stops (port_name_bytes v name ++ rest)
unfolding port_name_bytes
port_name_stops v name rest stops = go (same_name v name)
  where
    go : (b : Bool) → Stops (cond b [] (codes " " ++ string_bytes name) ++ rest)
    go true = stops
    go false = refl

port_lexed : (value : Option Name) (name : Name) (type : HwType) → MayBeValue value → AreBytes name → IsAnyType type
    → Lexed (PortPhrase (record { value = value; name = name; type = type })) (port_bytes_by value name type)
unfolding input_port_bytes output_port_bytes
port_lexed None name type h small t =
    let word = blank_after (bare_lexed (codes "out") refl) in
    lexed_as (λ ts w. inr (refl, w)) (then_on word (then (name_lexed name small) (then_on blank_colon (type_lexed type most_open t)) refl))
port_lexed (Some v) name type h small t =
    let word = blank_after (bare_lexed (codes "in") refl) in
    let typed = then_on blank_colon (type_lexed type most_open t) in
    let named = then (port_name_lexed v name small) typed refl in
    lexed_as (λ ts w. inl (v, refl, w)) (then_on word (then (value_name_lexed v h) named (port_name_stops v name _ refl)))

each_port : (p : PortText) → IsSpellablePort p → Lexed (PortPhrase (said_port p)) (port_bytes p)
each_port p h = port_lexed p.value p.name p.type h.value h.name h.type

ports_lexed : (ps : List PortText) → Each IsSpellablePort ps → Lexed (Commas PortPhrase (map said_port ps)) (commas port_bytes ps)
ports_lexed ps h =
    lexed_as (commas_said PortPhrase said_port ps) (commas_lexed (λ p. PortPhrase (said_port p)) port_bytes ps (each_of each_port ps h))

-- ---- modules

-- `attributes {..}`, or nothing
attributes_lexed : (es : List Entry) → IsDictionary module_keys es → Lexed (AttributesPhrase es) (dictionary_bytes (codes " attributes ") es)
unfolding dictionary_bytes
attributes_lexed [] h = lexed_as (λ ts w. inr (refl, w)) (lexed nothing)
attributes_lexed (e ∷ es) h =
    let word = blank_on_whole (blank_after (bare_lexed (codes "attributes") refl)) in
    lexed_as (λ ts w. inl w) (then_on word (lexed (dictionary_lexed module_keys (e ∷ es) h)))

private_whole : (b : Bool) → Whole (PrivatePhrase b) (private_bytes b)
unfolding private_bytes
private_whole true = blank_after (bare_lexed (codes "private") refl)
private_whole false = nothing

module_word :
    Whole (One (λ (t : TextToken). (t.kind ≡ kind.BareName) × (t.text ≡ name_of_listed listed.HwModule) × Anywhere t start_location)) (codes "  hw.module ")
unfolding name_of_listed
module_word = blank_on_whole (blank_on_whole (blank_after (operation_name listed.HwModule start_location)))

open_line : Whole (Mark kind.LeftBrace) (codes " {" ++ (10 ∷ []))
open_line = blank_on_whole (line_after (lexed left_brace))

close_line : Whole (One (λ (t : TextToken). (t.kind ≡ kind.RightBrace) × Anywhere t start_location)) (codes "  }" ++ (10 ∷ []))
close_line = whole_as (λ ts w. (w.0, w.1, (w.2, tt))) (blank_on_whole (blank_on_whole (line_after (lexed right_brace))))

-- the bytes of a module by its phrases
regrouped : (a b c p d brace x : List ℕ)
    → a ++ (b ++ (c ++ ((codes "(" ++ (p ++ codes ")")) ++ (d ++ (brace ++ x)))))
    ≡ (a ++ (b ++ (c ++ (codes "(" ++ (p ++ (codes ")" ++ (d ++ brace))))))) ++ x
regrouped a b c p d brace x = simp append_assoc

module_whole : (m : ModuleText) → IsSpellable m → Whole (ModulePhrase Anywhere (inherent_view m)) (module_bytes m)
unfolding module_bytes header_bytes
module_whole m h =
    let body = then_whole open_line (then_whole (operations_whole m.operations h.operations) close_line) in
    let ports : Whole (PortsPhrase (map said_port m.ports)) (codes "(" ++ (commas port_bytes m.ports ++ codes ")")) =
    whole_as (λ ts w. inl w) (between 41 [] left_parenthesis (ports_lexed m.ports h.ports) right_parenthesis refl) in
    let attributes = closed 32 _ (attributes_lexed m.dictionary h.dictionary) body refl in
    let symbol = closed 40 _ (symbol_lexed m.symbol h.symbol) (then_whole ports attributes) refl in
    let all = then_whole module_word (then_whole (private_whole m.is_private) symbol) in
    whole_by (regrouped (codes "  hw.module ") (private_bytes m.is_private) (symbol_bytes m.symbol) (commas port_bytes m.ports)
    (dictionary_bytes (codes " attributes ") m.dictionary) (codes " {" ++ (10 ∷ [])) _) all

modules_whole : (ms : List ModuleText) → Each IsSpellable ms → Whole (ModulesPhrase Anywhere (map inherent_view ms)) (modules_bytes ms)
modules_whole [] h = nothing
modules_whole (m ∷ ms) h = then_whole (module_whole m h.0) (modules_whole ms h.1)

-- ---- files

file_whole : (ms : List ModuleText) → Each IsSpellable ms → Whole (FilePhrase Anywhere (map inherent_view ms)) (file_bytes ms)
unfolding file_bytes
file_whole ms h =
    let word : Whole FileWord (codes "module ") = whole_as (λ ts w. inl w) (blank_after (bare_lexed (codes "module") refl)) in
    let inside : Whole (Between kind.LeftBrace kind.RightBrace (ModulesPhrase Anywhere (map inherent_view ms)))
    (codes "{" ++ ((10 ∷ []) ++ (modules_bytes ms ++ (codes "}" ++ (10 ∷ []))))) =
    then_whole (line_after (lexed left_brace)) (then_whole (modules_whole ms h) (line_after (lexed right_brace))) in
    whole_as (λ ts w. inr ([], w)) (then_whole word (whole_as (λ ts w. ([], ts, refl, inr refl, ([], ts, refl, inr (refl, refl), w))) inside))

-- the bytes of spellable texts are read as what they say
pub spellable_texts_are_spelled : (ms : List ModuleText) → Each IsSpellable ms → AreSpelled (file_bytes ms) ms
unfolding tokens_after
spellable_texts_are_spelled ms h =
    let all = (file_whole ms h).lex [] start_location 0 in
    (all.passed, ap (tokens_after 0 start_location 0) (sym (append-nil (file_bytes ms))) ∙ all.same ∙ append-nil (map token_of all.passed), all.says)
