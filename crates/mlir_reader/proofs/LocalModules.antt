-- The readers of pieces, operations, modules and files look no further than one token, so a refusal is of its token.
use Rattle.std.proofs.Common.{◌≡◌, ℕ, zero, suc, ◌≤◌, Bool, true, false, cond, nat_lt, List, [], ◌∷◌, ◌++◌, length, map, Option, Some, None, Result, Ok, Err, refl, sym, ◌∙◌, ap, subst, arith}
use Rattle.std.specs.Prelude.{codes}
use Rattle.std.proofs.lemmas.Bool.{ltb-true, cond-false}
use Rattle.diag.specs.declared.refusal.Location.{Location}
use Rattle.diag.specs.declared.refusal.Refusal.{Refusal}
use Rattle.diag.specs.declared.refusal.OpName.{OpName}
use Rattle.diag.specs.declared.refusal.OpName.TheVariants as op
use Rattle.opcode.specs.declared.listed.Listed.TheVariants as listed
use Rattle.hw_model.specs.Types.{Name}
use Rattle.mlir_lexer.specs.Contents.{content_of}
use Rattle.mlir_lexer.specs.Tokens.{TextToken, tokens}
use Rattle.mlir_lexer.specs.declared.token.TokenKind.TheVariants as kind
use Rattle.mlir_syntax.specs.Stream.{StreamToken, token, bad, end, stream, stream_of, first, is_next, is_word, is_end}
use Rattle.mlir_lexer.specs.TokenKinds.{is_kind}
use Rattle.mlir_syntax.specs.Reads.{Read, Reads}
use Rattle.mlir_syntax.specs.TypeText.{any_type, most_open}
use Rattle.mlir_syntax.specs.AttributeText.{is_symbol}
use Rattle.mlir_operations.specs.OperationText.{NameClass, operation, module_name, file_name, locations, outside, unknown, class_of, no_operation, is_last, operations_text}
use Rattle.mlir_operations.specs.ModuleText.{header, port_name, port_type, input_port, output_port, port_text, older_input, older_outputs, older_ports, ports_text, ModuleText, attributes_text}
use Rattle.mlir_operations.specs.ModuleText.{private_text, body_text, module_after, classed_module, module_text, modules_text, file_symbol, want_end, wrapped_text, is_file_name, file_text}
use Rattle.stored_form.specs.Dictionaries.{module_keys}
use Rattle.mlir_reader.specs.Reading.{text_limit, design_read, read}
use Rattle.mlir_reader.specs.Locality.{item_location, IsOfItsToken}
use Rattle.mlir_syntax.proofs.Local.{Whole, Same, location_first, whole_after, same_of, same_is_first, Given, Near, Loc, Local, loc_same, loc_on, loc_on_less, loc_if, loc_next, loc_cond, loc_first}
use Rattle.mlir_syntax.proofs.Local.{loc_after, loc_give, loc_unexpected, loc_zero, loc_step, local_all}
use Rattle.mlir_syntax.proofs.LocalParts.{local_want, local_name, local_symbol, local_until, local_type, local_dictionary}
use Rattle.mlir_operations.proofs.LocalOperands.{local_value_name}
use Rattle.mlir_reader.proofs.LocalOperations.{local_module_symbol, loc_no_operation, loc_misplaced, local_operation, takes_operation, takes_module}

-- ---- bodies

loc_operations : (n : ℕ) → Loc 0 n operations_text
unfolding operations_text
loc_operations zero = loc_zero
loc_operations (suc n) =
    loc_step (λ k s. refl) (loc_next (λ t. is_kind t.kind kind.RightBrace) (loc_give {y = []})
    (loc_on_less takes_operation (local_operation 1 n) (λ o. loc_cond (is_last o.name)
    (loc_next (λ t. is_kind t.kind kind.RightBrace) (loc_give {y = o ∷ []}) (loc_unexpected (op.Listed listed.HwModule)))
    (loc_on (loc_operations n) (λ os. loc_give {y = o ∷ os})))))

-- ---- ports

local_port_name : (v : Name) → Local (port_name v)
unfolding port_name
local_port_name v c n =
    loc_next (λ t. is_kind t.kind kind.StringLiteral)
    (loc_on (local_want header kind.StringLiteral c n) (λ t. loc_give {y = content_of kind.StringLiteral t.text})) (loc_give {y = v})

local_port_type : Local port_type
unfolding port_type any_type
local_port_type c n = loc_on (local_want header kind.Colon c n) (λ _. local_type most_open header c n)

local_output_port : Local output_port
unfolding output_port
local_output_port c n =
    loc_on (local_name header c n) (λ x. loc_on (local_port_type c n) (λ t. loc_give {y = record { value = None; name = x; type = t }}))

local_port : Local port_text
unfolding port_text input_port
local_port c n =
    loc_next (is_word (codes "in"))
    (loc_after (loc_on (local_value_name header c n) (λ v. loc_on (local_port_name v c n) (λ x. loc_on (local_port_type c n) (λ t.
    loc_give {y = record { value = Some v; name = x; type = t }})))))
    (loc_next (is_word (codes "out"))
    (loc_after (local_output_port c n)) (loc_unexpected header))

local_older_input : Local older_input
unfolding older_input
local_older_input c n =
    loc_on (local_value_name header c n) (λ v. loc_on (local_port_type c n) (λ t. loc_give {y = record { value = Some v; name = v; type = t }}))

local_older_outputs : Local older_outputs
unfolding older_outputs
local_older_outputs c n =
    loc_next (λ t. is_kind t.kind kind.Arrow)
    (loc_after (loc_on (local_want header kind.LeftParenthesis c n) (λ _. local_until header kind.RightParenthesis local_output_port c n))) (loc_give {y = []})

local_older_ports : Local older_ports
unfolding older_ports
local_older_ports c n =
    loc_on (local_until header kind.RightParenthesis local_older_input c n) (λ inputs. loc_on (local_older_outputs c n) (λ outputs.
    loc_give {y = inputs ++ outputs}))

local_ports : Local ports_text
unfolding ports_text
local_ports c n =
    loc_on (local_want header kind.LeftParenthesis c n) (λ _. loc_next (λ t. is_kind t.kind kind.ValueName) (local_older_ports c n)
    (loc_next (λ t. is_kind t.kind kind.RightParenthesis) (local_older_ports c n) (local_until header kind.RightParenthesis local_port c n)))

-- ---- modules

local_attributes : (op : OpName) → Local (attributes_text op)
unfolding attributes_text
local_attributes op c n = loc_next (is_word (codes "attributes")) (loc_after (local_dictionary op module_keys c n)) (loc_give {y = []})

local_private : Local private_text
unfolding private_text
local_private c n = loc_next (is_word (codes "private")) (loc_after (loc_give {y = true})) (loc_give {y = false})

local_body : Local body_text
unfolding body_text
local_body c n =
    loc_on (local_attributes header c n) (λ es. loc_on (local_want header kind.LeftBrace c n) (λ _.
    loc_on (local_all {R = operations_text} loc_operations c n) (λ os. loc_on (local_want header kind.RightBrace c n) (λ t.
    loc_give {y = record { dictionary = es; operations = os; close = t.location }}))))

local_module_after : (location : Location) → Local (module_after location)
unfolding module_after
local_module_after location c n =
    loc_on (local_private c n) (λ p. loc_on (local_module_symbol header c n) (λ x. loc_on (local_ports c n) (λ ports. loc_on (local_body c n) (λ b.
    loc_give {y = record { symbol = x; is_private = p; ports = ports; dictionary = b.dictionary; operations = b.operations; location = location; close = b.close }}))))

local_classed_module : (t : TextToken) (class : NameClass) → Local (λ s. classed_module s t class)
unfolding classed_module
local_classed_module t (operation o) c n = loc_misplaced op.File t (operation o)
local_classed_module t module_name c n = loc_after (local_module_after t.location c n)
local_classed_module t file_name c n = loc_misplaced op.File t file_name
local_classed_module t locations c n = loc_misplaced op.File t locations
local_classed_module t outside c n = loc_misplaced op.File t outside
local_classed_module t unknown c n = loc_misplaced op.File t unknown

-- a module, by its first token
abbrev ModuleAt : Option TextToken → ℕ → Reads ModuleText
ModuleAt None k s = Err (no_operation op.File s)
ModuleAt (Some t) k s = cond (is_kind t.kind kind.BareName) (classed_module s t (class_of t.text)) (Err (no_operation op.File s))

module_same : (k : ℕ) (s : List StreamToken) → module_text s ≡ ModuleAt (first s) k s
unfolding module_text
module_same k [] = refl
module_same k (token t ∷ ts) = refl
module_same k (bad p ∷ ts) = refl
module_same k (end p ∷ ts) = refl

loc_module_at : {c n : ℕ} (o : Option TextToken) → Loc c n (ModuleAt o)
loc_module_at None = loc_no_operation op.File
loc_module_at {c} {n} (Some t) = loc_cond (is_kind t.kind kind.BareName) (local_classed_module t (class_of t.text) c n) (loc_no_operation op.File)

local_module : Local module_text
local_module c n = loc_same module_same (loc_first ModuleAt loc_module_at)

loc_modules : (ends : List StreamToken → Bool) → ((x y : List StreamToken) → Same x y → ends x ≡ ends y) → (n : ℕ) → Loc 0 n (modules_text ends)
unfolding modules_text
loc_modules ends agree zero = loc_zero
loc_modules ends agree (suc n) =
    loc_step (λ k s. refl) (loc_if ends agree (loc_give {y = []})
    (loc_on_less takes_module (local_module 1 n) (λ m. loc_on (loc_modules ends agree n) (λ ms. loc_give {y = m ∷ ms}))))

-- ---- files

alike_end : (y : StreamToken) (a b : List StreamToken) → is_end (y ∷ a) ≡ is_end (y ∷ b)
alike_end (token t) a b = refl
alike_end (bad p) a b = refl
alike_end (end p) a b = refl

local_file_symbol : Local file_symbol
unfolding file_symbol
local_file_symbol c n = loc_next is_symbol (loc_on (local_symbol op.File c n) (λ _. loc_give {y = tt})) (loc_give {y = tt})

local_wrapped : Local wrapped_text
unfolding wrapped_text want_end
local_wrapped c n =
    loc_on (local_file_symbol c n) (λ _. loc_on (local_attributes op.File c n) (λ _. loc_on (local_want op.File kind.LeftBrace c n) (λ _.
    loc_on (local_all {R = modules_text (is_next kind.RightBrace)} (loc_modules (is_next kind.RightBrace) (same_is_first (λ t. is_kind t.kind kind.RightBrace))) c n) (λ ms.
    loc_on (local_want op.File kind.RightBrace c n) (λ _. loc_if is_end (same_of is_end alike_end) (loc_give {y = ms}) (loc_unexpected op.File))))))

pub local_file : Local file_text
unfolding file_text
local_file c n =
    loc_next is_file_name (loc_after (local_wrapped c n)) (local_all {R = modules_text is_end} (loc_modules is_end (same_of is_end alike_end)) c n)

-- ---- texts

pub whole_stream : (location : Location) (rs : List (Result TextToken Refusal)) → Whole (stream location rs)
whole_stream location [] = tt
whole_stream location (Ok t ∷ rs) = whole_stream location rs
whole_stream location (Err r ∷ rs) = tt

fits : (source : List ℕ) → length source ≤ text_limit → nat_lt text_limit (length source) ≡ false
fits source le = go (nat_lt text_limit (length source)) refl
  where
    go : (b : Bool) → nat_lt text_limit (length source) ≡ b → b ≡ false
    go true e = let h = ltb-true text_limit (length source) e in absurd (omega (arith, h, le))
    go false e = refl

pub read_is : (source : List ℕ) → length source ≤ text_limit → read source ≡ design_read (file_text (stream_of source))
read_is source le = cond-false (nat_lt text_limit (length source)) _ (design_read (file_text (stream_of source))) (fits source le)

pub first_location : (x : StreamToken) (rest : List StreamToken) → item_location x ≡ location_first (x ∷ rest)
first_location (token t) rest = refl
first_location (bad p) rest = refl
first_location (end p) rest = refl

refused_at : (source : List ℕ) (r : Refusal) (prefix : List TextToken) (u : List StreamToken) → stream_of source ≡ map token prefix ++ u → location_first u ≡ r.location
    → ((v : List StreamToken) → Whole v → Same u v → Given 0 (λ _. file_text) (map token prefix ++ v) (Err r)) → IsOfItsToken source r
refused_at source r prefix [] e location f = absurd (whole_after prefix [] (subst Whole e (whole_stream _ (tokens source))))
refused_at source r prefix (symbol ∷ rest) e location f = (
  prefix,
  symbol,
  rest,
  e,
  first_location symbol rest ∙ location,
  λ other following le same.
      read_is other le ∙ ap (λ s. design_read (file_text s)) same
      ∙ ap design_read (f (symbol ∷ following) (whole_after prefix (symbol ∷ following) (subst Whole same (whole_stream _ (tokens other)))) refl
      (length (map token prefix ++ (symbol ∷ following))) (omega arith)),
)

refused_when : (P : Refusal → Type 0) (source : List ℕ) (r : Refusal) (m : Read (List ModuleText)) → Near (Given 0 (λ _. file_text)) (stream_of source) m
    → design_read m ≡ Err r → ((e : Refusal) → Near (Given 0 (λ _. file_text)) (stream_of source) (Err e) → P e) → P r
refused_when P source r (Ok p) near h at = absurd cc
refused_when P source r (Err e) near h at =
    let same : e ≡ r = cc in
    subst P same (at e near)

-- what holds of a refusal that the tokens of a text are near to, holds of the refusal of the text
pub where_refused : (P : Refusal → Type 0) (source : List ℕ) (r : Refusal) → length source ≤ text_limit → read source ≡ Err r
    → ((e : Refusal) → Near (Given 0 (λ _. file_text)) (stream_of source) (Err e) → P e) → P r
where_refused P source r le h =
    refused_when P source r (file_text (stream_of source))
    ((local_file 0 (length (stream_of source))).near (stream_of source) (whole_stream _ (tokens source)) (omega arith)) (sym (read_is source le) ∙ h)

-- a refusal is of its token, whatever follows it
pub refusal_is_local : (source : List ℕ) (r : Refusal) → length source ≤ text_limit → read source ≡ Err r → IsOfItsToken source r
refusal_is_local source r le h = where_refused (IsOfItsToken source) source r le h (λ e near. refused_at source e near.0 near.1 near.2 near.3 near.4)
