-- The text of the pieces of an operation.
use Rattle.std.specs.Prelude.{ℕ, zero, suc, Bool, cond, List, [], ◌∷◌, ◌++◌, length, map, Option, Ok, codes, ℤ, pos}
use Rattle.diag.specs.declared.refusal.OpName.{OpName}
use Rattle.hw_model.specs.Types.{Name, HwType}
use Rattle.hw_model.specs.Types.HwType.{int}
use Rattle.hw_model.specs.Kinds.{Predicate, Literals, Instance}
use Rattle.hw_model.specs.TypeViews.{NamedType}
use Rattle.mlir_lexer.specs.declared.token.TokenKind.TheVariants as kind
use Rattle.mlir_syntax.specs.Stream.{is_first, is_word, after}
use Rattle.mlir_syntax.specs.Reads.{Reads, on, want, want_word, some_items, items_until}
use Rattle.mlir_syntax.specs.Numerals.{number_below, count_limit, integer}
use Rattle.mlir_syntax.specs.TypeText.{type_text, any_type, name_text, field_text, most_open}
use Rattle.mlir_syntax.specs.WordText.{inner_symbol, module_symbol, predicate_text, string_text, truth_text}
use Rattle.mlir_syntax.specs.LiteralText.{aggregate_text}
use Rattle.mlir_operations.specs.OperandText.{OperandName, operand_text}
use Rattle.assembly_format.specs.Formats.{text_of_keyword}
use Rattle.assembly_format.specs.declared.elements.FormatElement.{FormatElement}
use Rattle.assembly_format.specs.declared.elements.FormatElement.TheVariants as element

-- what the text of an operation says besides its operands and types
pub data InherentAttributes : Type 0 where
  nothing with_reset with_async_reset : InherentAttributes
  predicate : Predicate → InherentAttributes
  position : ℕ → InherentAttributes
  number : ℤ → InherentAttributes
  literals : Literals → InherentAttributes
  field_name : Name → InherentAttributes
  child : Instance → InherentAttributes

-- what is read of an operation: its operands, the types that are written, and the rest
pub record Gathered : Type 0 where
  pub operands : List OperandName
  pub types : List HwType
  pub inherent : InherentAttributes

-- nothing yet
abbrev pub gathered_nothing : Gathered
gathered_nothing = record { operands = []; types = []; inherent = nothing }

abbrev pub with_operands : Gathered → List OperandName → Gathered
with_operands g os = record g { operands = g.operands ++ os }

abbrev pub with_types : Gathered → List HwType → Gathered
with_types g ts = record g { types = g.types ++ ts }

abbrev pub with_inherent : Gathered → InherentAttributes → Gathered
with_inherent g e = record g { inherent = e }

-- `true` and `false` are 1 and 0 of i1
abbrev pub truth_number : Bool → ℤ
truth_number b = pos (cond b 1 0)

-- ---- operands and types

-- `(%a, ..)`
unfoldable pub group_text : OpName → Reads (List OperandName)
group_text op s = on (want op kind.LeftParenthesis s) (λ _ s1. items_until op kind.RightParenthesis (operand_text op) s1)

-- so many further types after commas
unfoldable pub further_types : OpName → ℕ → Reads (List HwType)
further_types op zero s = Ok ([], s)
further_types op (suc n) s =
    on (want op kind.Comma s) (λ _ s1. on (any_type op s1) (λ t s2. on (further_types op n s2) (λ ts s3. Ok (t ∷ ts, s3))))

-- so many types with commas between them
unfoldable pub types_text : OpName → ℕ → Reads (List HwType)
types_text op zero s = Ok ([], s)
types_text op (suc n) s = on (any_type op s) (λ t s1. on (further_types op n s1) (λ ts s2. Ok (t ∷ ts, s2)))

-- ---- resets

-- two operands after a reset, `e` saying what reset it is
unfoldable pub reset_operands : OpName → InherentAttributes → Gathered → Reads Gathered
reset_operands op e g s =
    on (operand_text op s) (λ r s1. on (want op kind.Comma s1) (λ _ s2. on (operand_text op s2) (λ v s3.
    Ok (with_inherent (with_operands g (r ∷ v ∷ [])) e, s3))))

-- `reset %r, %v`, or nothing
unfoldable pub reset_text : OpName → Gathered → Reads Gathered
reset_text op g s = cond (is_first (is_word (codes "reset")) s) (reset_operands op with_reset g (after s)) (Ok (g, s))

-- `sync` or `async`, with what reset it says
unfoldable pub reset_mode : OpName → Reads InherentAttributes
reset_mode op s =
    cond (is_first (is_word (codes "async")) s) (Ok (with_async_reset, after s))
    (on (want_word op (codes "sync") s) (λ _ left. Ok (with_reset, left)))

-- `reset sync %r, %v`, `reset async %r, %v`, or nothing (CIRCT, Seq dialect: `seq.firreg`)
unfoldable pub sync_or_async_reset_text : OpName → Gathered → Reads Gathered
sync_or_async_reset_text op g s =
    cond (is_first (is_word (codes "reset")) s) (on (reset_mode op (after s)) (λ e s1. reset_operands op e g s1)) (Ok (g, s))

-- ---- instances

-- an operand of an instance: the name of its port, and its type
pub record Joined : Type 0 where
  pub port : Name
  pub operand : OperandName
  pub type : HwType

-- `p: %v: T`
unfoldable pub input_text : OpName → Reads Joined
input_text op s =
    on (name_text op s) (λ port s1. on (want op kind.Colon s1) (λ _ s2. on (operand_text op s2) (λ o s3. on (want op kind.Colon s3) (λ _ s4.
    on (any_type op s4) (λ t s5. Ok (record { port = port; operand = o; type = t }, s5))))))

-- `q: T`
unfoldable pub output_text : OpName → Reads NamedType
output_text op s = field_text (type_text most_open op) op s

-- `(p: %v: T, ..)`
unfoldable pub inputs_text : OpName → Reads (List Joined)
inputs_text op s = on (want op kind.LeftParenthesis s) (λ _ s1. items_until op kind.RightParenthesis (input_text op) s1)

-- `-> (q: T, ..)`
unfoldable pub outputs_text : OpName → Reads (List NamedType)
outputs_text op s =
    on (want op kind.Arrow s) (λ _ s1. on (want op kind.LeftParenthesis s1) (λ _ s2. items_until op kind.RightParenthesis (output_text op) s2))

-- an instance of these parts
abbrev pub instance_with : Name → Option Name → Name → List Joined → List NamedType → Instance
instance_with name inner symbol ins outs = record {
  name = name;
  inner_symbol = inner;
  symbol = symbol;
  inputs = map (λ (j : Joined). j.port) ins;
  outputs = map (λ (t : NamedType). t.name) outs;
}

-- its operands and types besides
abbrev pub with_instance : Gathered → Instance → List Joined → List NamedType → Gathered
with_instance g i ins outs =
    with_inherent (with_types (with_types (with_operands g (map (λ (j : Joined). j.operand) ins)) (map (λ (j : Joined). j.type) ins))
    (map (λ (t : NamedType). t.type) outs)) (child i)

-- `"u" [sym @s] @N(p: %v: T, ..) -> (q: T, ..)`
unfoldable pub instance_text : OpName → Gathered → Reads Gathered
instance_text op g s =
    on (string_text op s) (λ name s1. on (inner_symbol op s1) (λ inner s2. on (module_symbol op s2) (λ symbol s3.
    on (inputs_text op s3) (λ ins s4. on (outputs_text op s4) (λ outs s5.
    Ok (with_instance g (instance_with name inner symbol ins outs) ins outs, s5))))))

-- ---- pieces

-- a piece, where so much is gathered before
unfoldable pub element_text : OpName → FormatElement → Gathered → Reads Gathered
element_text op (element.Mark k) g s = on (want op k s) (λ _ left. Ok (g, left))
element_text op (element.Word w) g s = on (want_word op (text_of_keyword w) s) (λ _ left. Ok (g, left))
element_text op element.Operand g s = on (operand_text op s) (λ o left. Ok (with_operands g (o ∷ []), left))
element_text op element.Operands g s = on (some_items op (operand_text op) s) (λ os left. Ok (with_operands g os, left))
element_text op element.Group g s = on (group_text op s) (λ os left. Ok (with_operands g os, left))
element_text op element.Predicate g s = on (predicate_text op s) (λ p left. Ok (with_inherent g (predicate p), left))
element_text op element.Number g s = on (number_below count_limit op s) (λ n left. Ok (with_inherent g (position n), left))
element_text op element.Truth g s = on (truth_text op s) (λ b left. Ok (with_inherent (with_types g (int 1 ∷ [])) (number (truth_number b)), left))
element_text op element.Integer g s = on (integer op s) (λ z left. Ok (with_inherent g (number z), left))
element_text op element.Literals g s = on (aggregate_text op s) (λ ls left. Ok (with_inherent g (literals ls), left))
element_text op element.Field g s = on (string_text op s) (λ name left. Ok (with_inherent g (field_name name), left))
element_text op element.Instance g s = instance_text op g s
element_text op element.Reset g s = reset_text op g s
element_text op element.SyncOrAsyncReset g s = sync_or_async_reset_text op g s
element_text op element.Type g s = on (any_type op s) (λ t left. Ok (with_types g (t ∷ []), left))
element_text op element.Types g s = on (types_text op (length g.operands) s) (λ ts left. Ok (with_types g ts, left))

-- pieces, one after another
abbrev pub elements_text : OpName → List FormatElement → Gathered → Reads Gathered
elements_text op [] g s = Ok (g, s)
elements_text op (p ∷ ps) g s = on (element_text op p g s) (λ h left. elements_text op ps h left)
