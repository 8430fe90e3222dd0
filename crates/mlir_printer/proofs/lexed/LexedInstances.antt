-- Instances are read as they are printed.
use Rattle.std.proofs.Common.{◌≡◌, ℕ, zero, suc, ◌≤◌, List, [], ◌∷◌, ◌++◌, length, map, take, drop, Option, Some, None, refl, sym, ◌∙◌, ap, arith, append_assoc, length-drop}
use Rattle.std.specs.Prelude.{codes}
use Rattle.std.proofs.lemmas.List.{take-append-drop}
use Rattle.hw_model.specs.Types.{Name, HwType}
use Rattle.hw_model.specs.TypeViews.{NamedType}
use Rattle.hw_model.specs.Kinds.{Instance}
use Rattle.mlir_lexer.specs.declared.token.TokenKind.TheVariants as kind
use Rattle.mlir_syntax.specs.TypeText.{most_open}
use Rattle.mlir_operations.specs.OperandText.{OperandName}
use Rattle.mlir_operations.specs.ElementText.{Gathered, Joined, instance_with, with_instance, with_inherent, with_types, with_operands}
use Rattle.mlir_operations.specs.ElementText.InherentAttributes.{child}
use Rattle.mlir_syntax.specs.Spelling.{Phrase, Mark, Then, Commas, Between, TypePhrase}
use Rattle.mlir_operations.specs.Spelling.{InputPhrase, OutputPhrase, InnerSymbol, InstancePhrase}
use Rattle.mlir_printer.specs.Strings.{symbol_bytes, string_bytes}
use Rattle.mlir_printer.specs.Commas.{commas}
use Rattle.mlir_printer.specs.Elements.{ValueText, InputText, input_bytes, output_bytes, inputs_joined, outputs_joined, inner_bytes, instance_head, connections_bytes, instance_bytes}
use Rattle.mlir_printer.specs.Spellable.{IsOperand, IsInstance, said_operand}
use Rattle.stored_form.specs.Bytes.{Each, AreBytes, MayBeBytes}
use Rattle.stored_form.specs.Limits.{IsAnyType}
use Rattle.mlir_printer.proofs.lexed.LexedTexts.{Stops, Whole, Lexed, lexed, lexed_as, lexed_by, then, then_on, then_whole, nothing, blank_on, blank_after, left_parenthesis, right_parenthesis}
use Rattle.mlir_printer.proofs.lexed.LexedStrings.{string_lexed}
use Rattle.mlir_printer.proofs.lexed.LexedNames.{bare_lexed, name_lexed, symbol_lexed}
use Rattle.mlir_printer.proofs.lexed.LexedCommas.{colon_blank, blank_arrow, commas_lexed, between}
use Rattle.mlir_printer.proofs.lexed.LexedTypes.{type_lexed, field_lexed}
use Rattle.mlir_printer.proofs.lexed.LexedOperands.{operand_lexed, commas_said}

-- ---- connections

-- an operand of an instance as a reader reads it
abbrev pub said_input : InputText → Joined
said_input j = record { port = j.port; operand = said_operand j.operand; type = j.type }

input_lexed : (j : InputText) → AreBytes j.port → IsOperand j.operand → IsAnyType j.type → Lexed (InputPhrase (said_input j)) (input_bytes j)
unfolding input_bytes
input_lexed j name operand type =
    then (name_lexed j.port name)
    (then_on colon_blank (then (operand_lexed j.operand operand) (then_on colon_blank (type_lexed j.type most_open type)) refl)) refl

output_lexed : (q : NamedType) → AreBytes q.name → IsAnyType q.type → Lexed (OutputPhrase q) (output_bytes q)
unfolding output_bytes
output_lexed q name type = field_lexed (TypePhrase most_open) q name (type_lexed q.type most_open type)

each_input : (ps : List Name) (os : List ValueText) (ts : List HwType) → Each AreBytes ps → Each IsOperand os → Each IsAnyType ts
    → Each (λ j. Lexed (InputPhrase (said_input j)) (input_bytes j)) (inputs_joined ps os ts)
each_input [] os ts h g k = tt
each_input (p ∷ ps) [] ts h g k = tt
each_input (p ∷ ps) (o ∷ os) [] h g k = tt
each_input (p ∷ ps) (o ∷ os) (t ∷ ts) h g k =
    (input_lexed (record { port = p; operand = o; type = t }) h.0 g.0 k.0, each_input ps os ts h.1 g.1 k.1)

each_output : (qs : List Name) (ts : List HwType) → Each AreBytes qs → Each IsAnyType ts
    → Each (λ q. Lexed (OutputPhrase q) (output_bytes q)) (outputs_joined qs ts)
each_output [] ts h k = tt
each_output (q ∷ qs) [] h k = tt
each_output (q ∷ qs) (t ∷ ts) h k = (output_lexed (record { name = q; type = t }) h.0 k.0, each_output qs ts h.1 k.1)

each_left : {A : Type 0} (P : A → Type 0) (n : ℕ) (xs : List A) → Each P xs → Each P (drop n xs)
each_left P zero xs h = h
each_left P (suc n) [] h = tt
each_left P (suc n) (x ∷ xs) h = each_left P n xs h.1

-- ---- what connections say

-- the inputs say their ports, their operands and the first types
record AreJoined (ps : List Name) (os : List ValueText) (ts : List HwType) (ins : List Joined) : Type 0 where
  ports : map (λ (j : Joined). j.port) ins ≡ ps
  operands : map (λ (j : Joined). j.operand) ins ≡ map said_operand os
  types : map (λ (j : Joined). j.type) ins ≡ take (length ps) ts

inputs_say : (ps : List Name) (os : List ValueText) (ts : List HwType) → length os ≡ length ps → length ps ≤ length ts
    → AreJoined ps os ts (map said_input (inputs_joined ps os ts))
inputs_say [] [] ts count within = record { ports = refl; operands = refl; types = refl }
inputs_say [] (o ∷ os) ts count within = absurd (omega (arith, count))
inputs_say (p ∷ ps) [] ts count within = absurd (omega (arith, count))
inputs_say (p ∷ ps) (o ∷ os) [] count within = absurd (omega (arith, within))
inputs_say (p ∷ ps) (o ∷ os) (t ∷ ts) count within =
    let more = inputs_say ps os ts (omega (arith, count)) (omega (arith, within)) in
    record { ports = ap (λ x. p ∷ x) more.ports; operands = ap (λ x. said_operand o ∷ x) more.operands; types = ap (λ x. t ∷ x) more.types }

outputs_say : (qs : List Name) (ts : List HwType) → length ts ≡ length qs
    → (map (λ (q : NamedType). q.name) (outputs_joined qs ts) ≡ qs) × (map (λ (q : NamedType). q.type) (outputs_joined qs ts) ≡ ts)
outputs_say [] [] count = (refl, refl)
outputs_say [] (t ∷ ts) count = absurd (omega (arith, count))
outputs_say (q ∷ qs) [] count = absurd (omega (arith, count))
outputs_say (q ∷ qs) (t ∷ ts) count =
    let (names, types) = outputs_say qs ts (omega (arith, count)) in (ap (λ x. q ∷ x) names, ap (λ x. t ∷ x) types)

-- what is gathered with an instance of these parts
abbrev gathered_of : Gathered → Instance → List OperandName → List HwType → List Name → List Name → Gathered
gathered_of g i os ts ps qs = record {
  operands = g.operands ++ os;
  types = ts;
  inherent = child (record { name = i.name; inner_symbol = i.inner_symbol; symbol = i.symbol; inputs = ps; outputs = qs });
}

same_gathered : (g : Gathered) (i : Instance) (os os' : List OperandName) (ts ts' : List HwType) (ps ps' qs qs' : List Name) → os ≡ os' → ts ≡ ts'
    → ps ≡ ps'
    → qs ≡ qs' → gathered_of g i os ts ps qs ≡ gathered_of g i os' ts' ps' qs'
same_gathered g i os os' ts ts' ps ps' qs qs' a b c d =
    ap (λ x. gathered_of g i x ts ps qs) a ∙ ap (λ x. gathered_of g i os' x ps qs) b ∙ ap (λ x. gathered_of g i os' ts' x qs) c
    ∙ ap (λ x. gathered_of g i os' ts' ps' x) d

-- the inputs and the outputs of an instance
abbrev inputs_of : Instance → List ValueText → List HwType → List Joined
inputs_of i os ts = map said_input (inputs_joined i.inputs os ts)

abbrev outputs_of : Instance → List HwType → List NamedType
outputs_of i ts = outputs_joined i.outputs (drop (length i.inputs) ts)

abbrev ports_said : List Joined → List Name
ports_said ins = map (λ (j : Joined). j.port) ins

abbrev operands_said : List Joined → List OperandName
operands_said ins = map (λ (j : Joined). j.operand) ins

abbrev types_said : List Joined → List HwType
types_said ins = map (λ (j : Joined). j.type) ins

abbrev names_out : List NamedType → List Name
names_out outs = map (λ (q : NamedType). q.name) outs

abbrev types_out : List NamedType → List HwType
types_out outs = map (λ (q : NamedType). q.type) outs

-- what connections say is what there is
instance_says : (g : Gathered) (i : Instance) (os : List ValueText) (ts : List HwType) → IsInstance i os ts
    → with_inherent (with_types (with_operands g (map said_operand os)) ts) (child i)
    ≡ with_instance g (instance_with i.name i.inner_symbol i.symbol (inputs_of i os ts) (outputs_of i ts)) (inputs_of i os ts) (outputs_of i ts)
instance_says g i os ts h =
    let types = h.types_count in
    let inputs = inputs_say i.inputs os ts h.inputs_count (omega (arith, types)) in
    let left : length (drop (length i.inputs) ts) ≡ length i.outputs = rw (length-drop (length i.inputs) ts) (omega (arith, types)) in
    let (names, following) = outputs_say i.outputs (drop (length i.inputs) ts) left in
    let prefix : types_said (inputs_of i os ts) ++ types_out (outputs_of i ts) ≡ ts =
    ap (λ x. x ++ types_out (outputs_of i ts)) inputs.types ∙ ap (λ x. take (length i.inputs) ts ++ x) following
    ∙ take-append-drop (length i.inputs) ts in
    let all : (g.types ++ types_said (inputs_of i os ts)) ++ types_out (outputs_of i ts) ≡ g.types ++ ts =
    append_assoc g.types (types_said (inputs_of i os ts)) (types_out (outputs_of i ts)) ∙ ap (λ x. g.types ++ x) prefix in
    sym (same_gathered g i (operands_said (inputs_of i os ts)) (map said_operand os)
    ((g.types ++ types_said (inputs_of i os ts)) ++ types_out (outputs_of i ts)) (g.types ++ ts)
    (ports_said (inputs_of i os ts)) i.inputs (names_out (outputs_of i ts)) i.outputs inputs.operands all inputs.ports names)

-- ---- instances

inner_whole : (inner : Option Name) → MayBeBytes inner → Whole (InnerSymbol inner) (inner_bytes inner)
unfolding inner_bytes
inner_whole None h = nothing
inner_whole (Some name) h = then_whole (blank_after (bare_lexed (codes "sym") refl)) (blank_after (symbol_lexed name h))

connections_stop : (ins outs : List Name) (os : List ValueText) (ts : List HwType) → Stops (connections_bytes ins outs os ts)
unfolding connections_bytes
connections_stop ins outs os ts = refl

-- `(p: %v: T, ..) -> (q: T, ..)`
abbrev ConnectionsPhrase : List Joined → List NamedType → Phrase
ConnectionsPhrase ins outs =
    Then (Between kind.LeftParenthesis kind.RightParenthesis (Commas InputPhrase ins))
    (Then (Mark kind.Arrow) (Between kind.LeftParenthesis kind.RightParenthesis (Commas OutputPhrase outs)))

inputs_lexed : (i : Instance) (os : List ValueText) (ts : List HwType) → IsInstance i os ts
    → Lexed (Commas InputPhrase (inputs_of i os ts)) (commas input_bytes (inputs_joined i.inputs os ts))
inputs_lexed i os ts h =
    lexed_as (commas_said InputPhrase said_input (inputs_joined i.inputs os ts))
    (commas_lexed (λ j. InputPhrase (said_input j)) input_bytes (inputs_joined i.inputs os ts)
    (each_input i.inputs os ts h.inputs h.operands h.types))

outputs_lexed : (i : Instance) (os : List ValueText) (ts : List HwType) → IsInstance i os ts
    → Lexed (Commas OutputPhrase (outputs_of i ts)) (commas output_bytes (outputs_of i ts))
outputs_lexed i os ts h =
    commas_lexed OutputPhrase output_bytes (outputs_of i ts)
    (each_output i.outputs (drop (length i.inputs) ts) h.outputs (each_left IsAnyType (length i.inputs) ts h.types))

connections_lexed : (i : Instance) (os : List ValueText) (ts : List HwType) → IsInstance i os ts
    → Lexed (ConnectionsPhrase (inputs_of i os ts) (outputs_of i ts)) (connections_bytes i.inputs i.outputs os ts)
unfolding connections_bytes
connections_lexed i os ts h =
    let ins = between 41 [] left_parenthesis (inputs_lexed i os ts h) right_parenthesis refl in
    let outs = between 41 [] left_parenthesis (outputs_lexed i os ts h) right_parenthesis refl in
    let following : List ℕ = codes " -> " ++ (codes "(" ++ (commas output_bytes (outputs_of i ts) ++ codes ")")) in
    lexed_by (ap (λ x. codes "(" ++ x) (append_assoc (commas input_bytes (inputs_joined i.inputs os ts)) (codes ")") following))
    (then_on ins (then_on blank_arrow (lexed outs)))

-- an instance is read as itself
pub instance_lexed : (g : Gathered) (i : Instance) (os : List ValueText) (ts : List HwType) → IsInstance i os ts
    → Lexed (InstancePhrase g (with_inherent (with_types (with_operands g (map said_operand os)) ts) (child i))) (instance_bytes i os ts)
unfolding instance_bytes instance_head
instance_lexed g i os ts h =
    let connections = connections_lexed i os ts h in
    let symbol = then (symbol_lexed i.symbol h.symbol) connections (connections_stop i.inputs i.outputs os ts) in
    let all = then_on (string_lexed i.name h.name) (blank_on (then_on (inner_whole i.inner_symbol h.inner) symbol)) in
    let rest : List ℕ = connections_bytes i.inputs i.outputs os ts in
    let same =
    append_assoc (string_bytes i.name) (codes " " ++ (inner_bytes i.inner_symbol ++ symbol_bytes i.symbol)) rest
    ∙ ap (λ x. string_bytes i.name ++ (codes " " ++ x)) (append_assoc (inner_bytes i.inner_symbol) (symbol_bytes i.symbol) rest) in
    lexed_by (sym same)
    (lexed_as (λ ts' p. (i.name, i.symbol, i.inner_symbol, inputs_of i os ts, outputs_of i ts, instance_says g i os ts h, p)) all)
