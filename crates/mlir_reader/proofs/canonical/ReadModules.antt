-- Modules that are read, and so designs, are in canonical form.
use Rattle.std.proofs.Common.{◌≡◌, ℕ, suc, ◌+◌, ◌<◌, ◌≤◌, Bool, true, false, cond, List, [], ◌∷◌, ◌++◌, length, refl, ap, ◌∙◌, sym, subst, inl, inr, arith, length-append}
use Rattle.std.specs.Prelude.{nat_lt, Ok, Err}
use Rattle.std.proofs.lemmas.Bool.{ltb-false}
use Rattle.diag.specs.Location.{start_location}
use Rattle.diag.specs.declared.refusal.Location as code
use Rattle.diag.specs.declared.refusal.OpName.TheVariants as op
use Rattle.diag.specs.declared.cause.Cause.TheVariants.{TooLong}
use Rattle.opcode.specs.declared.listed.Listed.TheVariants as listed
use Rattle.hw_model.specs.Types.{Name}
use Rattle.hw_model.specs.Design.{Entry, Op, Design}
use Rattle.type_inference.specs.ResultTypes.{result_types}
use Rattle.mlir_lexer.specs.Tokens.{TextToken}
use Rattle.mlir_lexer.specs.declared.token.TokenKind.{TokenKind}
use Rattle.mlir_lexer.specs.declared.token.TokenKind.TheVariants as kind
use Rattle.mlir_syntax.specs.Numerals.{count_limit}
use Rattle.mlir_syntax.specs.Stream.{stream_of, refusal}
use Rattle.mlir_syntax.specs.TypeText.{most_open}
use Rattle.stored_form.specs.Bytes.{Each, AreBytes}
use Rattle.stored_form.specs.Limits.{IsAnyType}
use Rattle.stored_form.specs.Dictionaries.{module_keys}
use Rattle.stored_form.specs.Canonical.{IsCanonicalOp, IsCanonicalPort, IsCanonicalModule, IsCanonical}
use Rattle.mlir_operations.specs.OperationText.{OperationText}
use Rattle.mlir_operations.specs.ModuleText.{PortText, ModuleText, file_text}
use Rattle.mlir_reader.specs.Reading.{text_limit, design_read, read}
use Rattle.mlir_reader.specs.Resolving.{Meanings, with_definitions, operation_definitions, operations_from, port_definition, ports_from, no_meaning, port_meanings, meanings, ends_with_output}
use Rattle.mlir_reader.specs.Resolving.{has_outputs, left_out_output, with_output, module_of, design_of}
use Rattle.mlir_syntax.specs.Spelling.{Phrase, Either, Holding, Where, Nothing, Commas, Between}
use Rattle.mlir_operations.specs.Spelling.{Stands, IsLocationOf, OperationsPhrase, PortPhrase, OlderInputPhrase, OlderOutputPhrase, OlderOutputsPhrase, PortsPhrase, AttributesPhrase, ModulePhrase, ModulesPhrase, FilePhrase}
use Rattle.mlir_reader.specs.Spelling.{Spells}
use Rattle.mlir_reader.proofs.SoundModules.{read_is_spelled}
use Rattle.mlir_reader.proofs.canonical.ReadBytes.{AreTexts, texts_of, count_of, said, said_first, said_then, said_count, held_bytes, name_bytes_read, symbol_bytes_read, each_read, type_read}
use Rattle.mlir_reader.proofs.canonical.ReadElements.{each_append}
use Rattle.mlir_reader.proofs.canonical.ReadOperations.{IsReadDictionary, kept_read, dictionary_read, op_read}
use Rattle.mlir_reader.proofs.canonical.TokenCounts.{commas_few, port_some, older_input_some, older_output_some, operation_some}

-- ---- bodies

-- a body that is read: operations in canonical form, so many at most
record IsReadBody (n : ℕ) (os : List Op) : Type 0 where
  each : Each IsCanonicalOp os
  few : length os ≤ n

body_read : (At : Stands) (os : List OperationText) (ts : List TextToken) (m earlier : Meanings) (i : ℕ) → AreTexts ts → length ts < count_limit
    → OperationsPhrase At os ts → IsReadBody (length ts) (operations_from m earlier i os)
body_read At [] ts m earlier i texts small h = record { each = tt; few = omega arith }
body_read At (o ∷ os) ts m earlier i texts small h =
    let both = said ts texts h.1 in
    let one = said_first both in
    let others = said_then both in
    let one_few = one.few in
    let others_few = others.few in
    let within = both.few in
    let some = operation_some At o one.symbols one.is in
    let rest = body_read At os others.symbols m (with_definitions earlier (operation_definitions i o)) (i + 1) others.texts (omega (arith, others_few, small)) others.is in
    let more = rest.few in
    record {
      each = (op_read At o one.symbols m earlier i one.texts (omega (arith, one_few, small)) one.is, rest.each);
      few = omega (arith, some, more, within, said_count both);
    }

left_out_read : (location : code.Location) → IsCanonicalOp (left_out_output location)
unfolding result_types
left_out_read location = record {
  types = tt;
  readable = tt;
  kept = tt;
  written = tt;
  nameless = λ e. refl;
  name = tt;
  dictionary = record { in_order = tt; kept = tt; entries = tt };
  bin = λ e. cc;
  named = omega arith;
}

-- with the output that a text leaves out
with_left_out : (n : ℕ) (os : List Op) (location : code.Location) → IsReadBody n os → IsReadBody (suc n) (os ++ left_out_output location ∷ [])
with_left_out n os location h =
    let few = h.few in
    let both = length-append os (left_out_output location ∷ []) in
    record { each = each_append IsCanonicalOp os (left_out_output location ∷ []) h.each (left_out_read location, tt); few = omega (arith, few, both) }

more_read : (n : ℕ) (os : List Op) → IsReadBody n os → IsReadBody (suc n) os
more_read n os h = let few = h.few in record { each = h.each; few = omega (arith, few) }

completed_read : (n : ℕ) (m : ModuleText) (os : List Op) → IsReadBody n os → IsReadBody (suc n) (with_output m os)
completed_read n m os h = go (ends_with_output m.operations) (has_outputs m.ports)
  where
    go : (a b : Bool) → IsReadBody (suc n) (cond a os (cond b os (os ++ left_out_output m.close ∷ [])))
    go true b = more_read n os h
    go false true = more_read n os h
    go false false = with_left_out n os m.close h

-- ---- ports

abbrev IsReadPortText : PortText → Type 0
IsReadPortText p = AreBytes p.name × IsAnyType p.type

-- a port is called by a string, or as its value
port_name_read : (name v : Name) (ts : List TextToken) → AreTexts ts → AreBytes v
    → Either (Holding kind.StringLiteral name) (Where (name ≡ v) Nothing) ts → AreBytes name
port_name_read name v ts texts h (inl e) = held_bytes kind.StringLiteral name ts texts e
port_name_read name v ts texts h (inr e) = subst AreBytes (sym e.0) h

port_read : (p : PortText) (ts : List TextToken) → AreTexts ts → PortPhrase p ts → IsReadPortText p
port_read p ts texts (inl h) =
    let following = said_then (said ts texts h.2) in
    let value = said_first following in
    let called = said_then following in
    let name = said_first called in
    let type = said_then (said_then called) in (
      port_name_read p.name h.0 name.symbols name.texts (held_bytes kind.ValueName h.0 value.symbols value.texts value.is) name.is,
      type_read most_open p.type type.symbols type.texts type.is,
    )
port_read p ts texts (inr h) =
    let following = said_then (said ts texts h.1) in
    let name = said_first following in
    let type = said_then (said_then following) in
    (name_bytes_read p.name name.symbols name.texts name.is, type_read most_open p.type type.symbols type.texts type.is)

older_input_read : (p : PortText) (ts : List TextToken) → AreTexts ts → OlderInputPhrase p ts → IsReadPortText p
older_input_read p ts texts h =
    let all = said ts texts h.3 in
    let value = said_first all in
    let type = said_then (said_then all) in (
      subst AreBytes (sym h.2) (held_bytes kind.ValueName h.0 value.symbols value.texts value.is),
      type_read most_open p.type type.symbols type.texts type.is,
    )

older_output_read : (p : PortText) (ts : List TextToken) → AreTexts ts → OlderOutputPhrase p ts → IsReadPortText p
older_output_read p ts texts h =
    let all = said ts texts h.1 in
    let name = said_first all in
    let type = said_then (said_then all) in
    (name_bytes_read p.name name.symbols name.texts name.is, type_read most_open p.type type.symbols type.texts type.is)

-- ports that are read, no more than their tokens
abbrev AreReadPorts : List PortText → List TextToken → Type 0
AreReadPorts ps ts = Each IsReadPortText ps × (length ps ≤ length ts)

between_read : {left right : TokenKind} (P : PortText → Phrase) → ((p : PortText) (ts : List TextToken) → AreTexts ts → P p ts → IsReadPortText p)
    → ((p : PortText) (ts : List TextToken) → P p ts → 1 ≤ length ts) → (ps : List PortText) (ts : List TextToken) → AreTexts ts
    → Between left right (Commas P ps) ts → AreReadPorts ps ts
between_read P each some ps ts texts h =
    let list = said_first (said_then (said ts texts h)) in
    let within = list.few in
    let few = commas_few P some ps list.symbols list.is in
    (each_read P IsReadPortText each ps list.symbols list.texts list.is, omega (arith, within, few))

older_outputs_read : (ps : List PortText) (ts : List TextToken) → AreTexts ts → OlderOutputsPhrase ps ts → AreReadPorts ps ts
older_outputs_read ps ts texts (inl h) =
    let rest = said_then (said ts texts h) in
    let within = rest.few in
    let read = between_read OlderOutputPhrase older_output_read older_output_some ps rest.symbols rest.texts rest.is in
    let few = read.1 in
    (read.0, omega (arith, within, few))
older_outputs_read ps ts texts (inr h) = subst (λ (qs : List PortText). AreReadPorts qs ts) (sym h.0) (tt, omega arith)

all_ports_read : (ps : List PortText) (ts : List TextToken) → AreTexts ts → PortsPhrase ps ts → AreReadPorts ps ts
unfolding said
all_ports_read ps ts texts (inl h) = between_read PortPhrase port_read port_some ps ts texts h
all_ports_read ps ts texts (inr h) =
    let both = said ts texts h.3 in
    let prefix = said_first both in
    let rest = said_then both in
    let count : length ts ≡ length prefix.symbols + length rest.symbols = said_count both in
    let inputs = between_read OlderInputPhrase older_input_read older_input_some h.0 prefix.symbols prefix.texts prefix.is in
    let outputs = older_outputs_read h.1 rest.symbols rest.texts rest.is in
    let few = inputs.1 in
    let more = outputs.1 in
    let same = ap length h.2 ∙ length-append h.0 h.1 in
    (subst (Each IsReadPortText) (sym h.2) (each_append IsReadPortText h.0 h.1 inputs.0 outputs.0), omega (arith, count, few, more, same))

ports_read : (earlier : Meanings) (j : ℕ) (ps : List PortText) → Each IsReadPortText ps → Each IsCanonicalPort (ports_from earlier j ps)
ports_read earlier j [] h = tt
ports_read earlier j (p ∷ ps) h = (record { name = h.0.0; type = h.0.1 }, ports_read (with_definitions earlier (port_definition j p.value)) (j + 1) ps h.1)

port_count : (earlier : Meanings) (j : ℕ) (ps : List PortText) → length (ports_from earlier j ps) ≡ length ps
port_count earlier j [] = refl
port_count earlier j (p ∷ ps) = ap suc (port_count (with_definitions earlier (port_definition j p.value)) (j + 1) ps)

-- ---- modules

attributes_read : (es : List Entry) (ts : List TextToken) → AreTexts ts → AttributesPhrase es ts → IsReadDictionary module_keys es
attributes_read es ts texts (inl h) =
    let entries = said_then (said ts texts h) in dictionary_read module_keys es entries.symbols entries.texts entries.is
attributes_read es ts texts (inr h) = subst (IsReadDictionary module_keys) (sym h.0) (record { once = tt; each = tt })

module_read : (At : Stands) (m : ModuleText) (ts : List TextToken) → AreTexts ts → length ts ≤ text_limit → ModulePhrase At m ts
    → IsCanonicalModule (module_of m)
module_read At m ts texts small h =
    let named = said_then (said_then (said ts texts h)) in
    let symbol = said_first named in
    let following = said_then named in
    let ports = said_first following in
    let rest = said_then following in
    let attributes = said_first rest in
    let body = said_first (said_then (said_then rest)) in
    let ports_within = ports.few in
    let body_within = body.few in
    let count = port_count no_meaning 0 m.ports in
    let read = all_ports_read m.ports ports.symbols ports.texts ports.is in
    let port_tokens = read.1 in
    let operations =
    body_read At m.operations body.symbols (meanings m) (port_meanings m.ports) 0 body.texts (omega (arith, body_within, small)) body.is in
    let whole = completed_read (length body.symbols) m (operations_from (meanings m) (port_meanings m.ports) 0 m.operations) operations in
    let few = whole.few in
    record {
      symbol = symbol_bytes_read m.symbol symbol.symbols symbol.texts symbol.is;
      ports = ports_read no_meaning 0 m.ports read.0;
      dictionary =
          kept_read listed.HwModule module_keys m.dictionary (attributes_read m.dictionary attributes.symbols attributes.texts attributes.is);
      operations = whole.each;
      few_ports = omega (arith, count, port_tokens, ports_within, small);
      few_operations = omega (arith, few, body_within, small);
    }

modules_read : (At : Stands) (ms : List ModuleText) (ts : List TextToken) → AreTexts ts → length ts ≤ text_limit → ModulesPhrase At ms ts
    → IsCanonical (design_of ms)
modules_read At [] ts texts small h = tt
modules_read At (m ∷ ms) ts texts small h =
    let both = said ts texts h in
    let one = said_first both in
    let others = said_then both in
    let one_few = one.few in
    let others_few = others.few in (
      module_read At m one.symbols one.texts (omega (arith, one_few, small)) one.is,
      modules_read At ms others.symbols others.texts (omega (arith, others_few, small)) others.is,
    )

file_read : (At : Stands) (ms : List ModuleText) (ts : List TextToken) → AreTexts ts → length ts ≤ text_limit → FilePhrase At ms ts
    → IsCanonical (design_of ms)
file_read At ms ts texts small (inl h) = modules_read At ms ts texts small h
file_read At ms ts texts small (inr h) =
    let modules = said_first (said_then (said_then (said_then (said_then (said ts texts h.1))))) in
    let few = modules.few in
    modules_read At ms modules.symbols modules.texts (omega (arith, few, small)) modules.is

-- what bytes spell is in canonical form
spelled_is_canonical : (source : List ℕ) (d : Design) → AreBytes source → length source ≤ text_limit → Spells source d → IsCanonical d
spelled_is_canonical source d bytes small h =
    let few = count_of source h.1 h.2 in
    subst IsCanonical (sym h.4) (file_read IsLocationOf h.0 h.1 (texts_of source h.1 bytes h.2) (omega (arith, few, small)) h.3)

-- what is read is short
read_short : (source : List ℕ) (d : Design) → read source ≡ Ok d → length source ≤ text_limit
read_short source d h = go (nat_lt text_limit (length source)) refl h
  where
    go : (b : Bool) → nat_lt text_limit (length source) ≡ b
        → cond b (Err (refusal start_location op.File TooLong)) (design_read (file_text (stream_of source))) ≡ Ok d
        → length source ≤ text_limit
    go true e g = cc
    go false e g = ltb-false text_limit (length source) e

-- what is read of bytes is in canonical form
pub read_is_canonical : (source : List ℕ) (d : Design) → AreBytes source → read source ≡ Ok d → IsCanonical d
read_is_canonical source d bytes h = spelled_is_canonical source d bytes (read_short source d h) (read_is_spelled source d h)
