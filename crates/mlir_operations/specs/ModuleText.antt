-- The text of modules and of a file (CIRCT, HW dialect: `hw.module`; MLIR, builtin dialect: `builtin.module`).
use Rattle.std.specs.Prelude.{ℕ, zero, suc, Bool, true, false, cond, List, [], ◌∷◌, ◌++◌, length, Option, Some, None, Ok, Err, codes}
use Rattle.diag.specs.declared.refusal.Location.{Location}
use Rattle.diag.specs.declared.refusal.OpName.{OpName}
use Rattle.diag.specs.declared.refusal.OpName.TheVariants as op
use Rattle.opcode.specs.declared.listed.Listed.TheVariants as listed
use Rattle.hw_model.specs.Types.{Name, HwType}
use Rattle.hw_model.specs.Design.{Entry}
use Rattle.mlir_lexer.specs.Contents.{content_of}
use Rattle.mlir_lexer.specs.Tokens.{TextToken}
use Rattle.mlir_lexer.specs.declared.token.TokenKind.TheVariants as kind
use Rattle.mlir_syntax.specs.Stream.{is_end, StreamToken, token, bad, end, is_first, is_next, is_word, after, unexpected_refusal}
use Rattle.mlir_lexer.specs.TokenKinds.{is_kind}
use Rattle.mlir_syntax.specs.Reads.{Reads, Read, on, want, items_until}
use Rattle.mlir_syntax.specs.TypeText.{any_type, name_text}
use Rattle.mlir_syntax.specs.AttributeText.{dictionary_text, is_symbol}
use Rattle.mlir_operations.specs.OperandText.{value_name}
use Rattle.mlir_syntax.specs.WordText.{symbol_text, module_symbol}
use Rattle.mlir_operations.specs.OperationText.{OperationText, NameClass, operation, module_name, file_name, locations, outside, unknown, class_of, misplaced_refusal, no_operation, operations_text}
use Rattle.stored_form.specs.Dictionaries.{module_keys}

-- the operation that refusals in a module's header name
abbrev pub header : OpName
header = op.Listed listed.HwModule

-- ---- ports

-- a port as its text says it: of an input the name of its value, of an output none
pub record PortText : Type 0 where
  pub value : Option Name
  pub name : Name
  pub type : HwType

-- `"name"`, or nothing, which means the name of the value
unfoldable pub port_name : Name → Reads Name
port_name value s =
    cond (is_next kind.StringLiteral s) (on (want header kind.StringLiteral s) (λ t left. Ok (content_of kind.StringLiteral t.text, left))) (Ok (value, s))

-- `: T`
unfoldable pub port_type : Reads HwType
port_type s = on (want header kind.Colon s) (λ _ left. any_type header left)

-- `%v ["name"] : T` after `in`
unfoldable pub input_port : Reads PortText
input_port s =
    on (value_name header s) (λ v s1. on (port_name v s1) (λ n s2. on (port_type s2) (λ t s3. Ok (record { value = Some v; name = n; type = t }, s3))))

-- `name : T` after `out`
unfoldable pub output_port : Reads PortText
output_port s = on (name_text header s) (λ n s1. on (port_type s1) (λ t s2. Ok (record { value = None; name = n; type = t }, s2)))

-- a port
unfoldable pub port_text : Reads PortText
port_text s =
    cond (is_first (is_word (codes "in")) s) (input_port (after s))
    (cond (is_first (is_word (codes "out")) s) (output_port (after s)) (Err (unexpected_refusal header s)))

-- `%v : T`, an input of the older header
unfoldable pub older_input : Reads PortText
older_input s =
    on (value_name header s) (λ v s1. on (port_type s1) (λ t s2. Ok (record { value = Some v; name = v; type = t }, s2)))

-- `-> (OUTPUTS)`, or nothing
unfoldable pub older_outputs : Reads (List PortText)
older_outputs s =
    cond (is_next kind.Arrow s)
    (on (want header kind.LeftParenthesis (after s)) (λ _ s1. items_until header kind.RightParenthesis output_port s1)) (Ok ([], s))

-- `INPUTS) [-> (OUTPUTS)]`, the ports of the older header after their parenthesis
unfoldable pub older_ports : Reads (List PortText)
older_ports s =
    on (items_until header kind.RightParenthesis older_input s) (λ inputs s1. on (older_outputs s1) (λ outputs s2. Ok (inputs ++ outputs, s2)))

-- `(PORTS)`, or `(INPUTS) [-> (OUTPUTS)]` of the older header, whose inputs begin with their values
unfoldable pub ports_text : Reads (List PortText)
ports_text s =
    on (want header kind.LeftParenthesis s) (λ _ s1.
    cond (is_next kind.ValueName s1) (older_ports s1)
    (cond (is_next kind.RightParenthesis s1) (older_ports s1) (items_until header kind.RightParenthesis port_text s1)))

-- ---- modules

-- a module as its text says it, with the location of its closing brace
pub record ModuleText : Type 0 where
  pub symbol : Name
  pub is_private : Bool
  pub ports : List PortText
  pub dictionary : List Entry
  pub operations : List OperationText
  pub location : Location
  pub close : Location

-- `attributes {..}`, or nothing
unfoldable pub attributes_text : OpName → Reads (List Entry)
attributes_text op s =
    cond (is_first (is_word (codes "attributes")) s) (dictionary_text op module_keys (after s)) (Ok ([], s))

-- `private`, or nothing
unfoldable pub private_text : Reads Bool
private_text s = cond (is_first (is_word (codes "private")) s) (Ok (true, after s)) (Ok (false, s))

-- what stands after the ports
pub record BodyText : Type 0 where
  pub dictionary : List Entry
  pub operations : List OperationText
  pub close : Location

-- `[attributes {..}] { OPERATIONS }`
unfoldable pub body_text : Reads BodyText
body_text s =
    on (attributes_text header s) (λ es s1. on (want header kind.LeftBrace s1) (λ _ s2. on (operations_text (length s2) s2) (λ os s3.
    on (want header kind.RightBrace s3) (λ t s4. Ok (record { dictionary = es; operations = os; close = t.location }, s4)))))

-- a module after its name
unfoldable pub module_after : Location → Reads ModuleText
module_after location s =
    on (private_text s) (λ p s1. on (module_symbol header s1) (λ n s2. on (ports_text s2) (λ ports s3. on (body_text s3) (λ b s4.
    Ok (record { symbol = n; is_private = p; ports = ports; dictionary = b.dictionary; operations = b.operations; location = location; close = b.close }, s4)))))

-- a module whose name is of this class, where refusals name what is around
unfoldable pub classed_module : List StreamToken → TextToken → NameClass → Read ModuleText
classed_module s t (operation o) = Err (misplaced_refusal op.File s t (operation o))
classed_module s t module_name = module_after t.location (after s)
classed_module s t file_name = Err (misplaced_refusal op.File s t file_name)
classed_module s t locations = Err (misplaced_refusal op.File s t locations)
classed_module s t outside = Err (misplaced_refusal op.File s t outside)
classed_module s t unknown = Err (misplaced_refusal op.File s t unknown)

-- a module
unfoldable pub module_text : Reads ModuleText
module_text [] = Err (no_operation op.File [])
module_text (token t ∷ ts) =
    cond (is_kind t.kind kind.BareName) (classed_module (token t ∷ ts) t (class_of t.text)) (Err (no_operation op.File (token t ∷ ts)))
module_text (bad p ∷ ts) = Err (no_operation op.File (bad p ∷ ts))
module_text (end p ∷ ts) = Err (no_operation op.File (end p ∷ ts))

-- ---- files

-- modules up to where a test holds, so many at most
unfoldable pub modules_text : (List StreamToken → Bool) → ℕ → Reads (List ModuleText)
modules_text ends zero s = Err (unexpected_refusal op.File s)
modules_text ends (suc n) s =
    cond (ends s) (Ok ([], s)) (on (module_text s) (λ m left. on (modules_text ends n left) (λ ms following. Ok (m ∷ ms, following))))

-- a symbol that is not kept, or nothing
unfoldable pub file_symbol : Reads (Unit {0})
file_symbol s = cond (is_first is_symbol s) (on (symbol_text op.File s) (λ _ left. Ok (tt, left))) (Ok (tt, s))

-- the end of the text
unfoldable pub want_end : {A : Type 0} → A → Reads A
want_end x s = cond (is_end s) (Ok (x, s)) (Err (unexpected_refusal op.File s))

-- `[@N] [attributes {..}] { MODULES }` and the end, after the name of a file's module
unfoldable pub wrapped_text : Reads (List ModuleText)
wrapped_text s =
    on (file_symbol s) (λ _ s1. on (attributes_text op.File s1) (λ _ s2. on (want op.File kind.LeftBrace s2) (λ _ s3.
    on (modules_text (is_next kind.RightBrace) (length s3) s3) (λ ms s4. on (want op.File kind.RightBrace s4) (λ _ s5. want_end ms s5)))))

-- whether a token is the name of a file's module
abbrev pub is_file_name : TextToken → Bool
is_file_name t = cond (is_word (codes "module") t) true (is_word (codes "builtin.module") t)

-- a file: modules, bare or in one module of the builtin dialect
unfoldable pub file_text : Reads (List ModuleText)
file_text s = cond (is_first is_file_name s) (wrapped_text (after s)) (modules_text is_end (length s) s)
