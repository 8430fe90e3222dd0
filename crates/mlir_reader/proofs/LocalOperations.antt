-- Pieces of operations, and operations: only the first token that is left decides.
use Rattle.std.proofs.Common.{◌≡◌, ℕ, zero, suc, ◌≤◌, ◌<◌, Bool, true, false, ◌&&◌, cond, List, [], ◌∷◌, ◌++◌, length, map, Option, Some, None, Ok, Err, refl, ◌∙◌, ap, arith, option_and_then}
use Rattle.std.specs.Prelude.{codes}
use Rattle.diag.specs.declared.refusal.Location.{Location}
use Rattle.diag.specs.declared.refusal.Refusal.{Refusal}
use Rattle.diag.specs.declared.refusal.OpName.{OpName}
use Rattle.diag.specs.declared.refusal.OpName.TheVariants as op
use Rattle.diag.specs.declared.cause.Cause.{Cause}
use Rattle.diag.specs.declared.cause.Cause.TheVariants.{OutsideProfile, Unexpected, UnknownOperation}
use Rattle.opcode.specs.declared.listed.Listed.{Listed}
use Rattle.opcode.specs.declared.listed.Listed.TheVariants as listed
use Rattle.hw_model.specs.Types.{Name}
use Rattle.hw_model.specs.Types.HwType.{int}
use Rattle.hw_model.specs.Design.{Entry}
use Rattle.mlir_lexer.specs.Contents.{content_of}
use Rattle.mlir_lexer.specs.Tokens.{TextToken}
use Rattle.mlir_lexer.specs.declared.token.TokenKind.TheVariants as kind
use Rattle.mlir_syntax.specs.Stream.{StreamToken, token, bad, end, first, is_first, is_word, refusal, cause_of_first}
use Rattle.mlir_lexer.specs.TokenKinds.{is_kind}
use Rattle.mlir_syntax.specs.Reads.{Reads}
use Rattle.mlir_syntax.specs.Numerals.{count_limit}
use Rattle.mlir_syntax.specs.TypeText.{any_type, most_open}
use Rattle.mlir_operations.specs.OperandText.{ResultNames}
use Rattle.assembly_format.specs.Formats.{text_of_keyword, format_of, prefix_elements, type_elements}
use Rattle.mlir_operations.specs.ElementText.{InherentAttributes, Gathered, gathered_nothing, with_operands, with_types, with_inherent, truth_number, group_text, further_types, types_text}
use Rattle.mlir_operations.specs.ElementText.{reset_operands, reset_text, reset_mode, sync_or_async_reset_text, input_text, output_text, inputs_text, outputs_text, instance_with, with_instance}
use Rattle.mlir_operations.specs.ElementText.{instance_text, element_text, elements_text}
use Rattle.mlir_syntax.specs.WordText.{predicate_named, bare_text, as_known, predicate_text, truth_named, truth_text, string_text, inner_symbol, module_symbol}
use Rattle.mlir_operations.specs.ElementText.InherentAttributes.{with_reset, with_async_reset, predicate, position, number, literals, field_name}
use Rattle.mlir_operations.specs.OperationText.{NameClass, operation, module_name, file_name, locations, outside, unknown, class_of, misplaced_refusal, is_outside, no_operation, bin_text}
use Rattle.mlir_operations.specs.OperationText.{OperationText, given_entries, late_dictionary, form_text, named_operation, classed_operation, operation_after, operation_text}
use Rattle.stored_form.specs.Dictionaries.{takes_bin, string_keys}
use Rattle.mlir_operations.specs.ModuleText.{ModuleText, module_text}
use Rattle.assembly_format.specs.declared.elements.FormatElement.{FormatElement}
use Rattle.assembly_format.specs.declared.elements.FormatElement.TheVariants as element
use Rattle.assembly_format.specs.declared.elements.Format.{Format}
use Rattle.mlir_operations.proofs.SoundOperations.{sound_operation}
use Rattle.mlir_reader.proofs.SoundModules.{sound_module}
use Rattle.mlir_syntax.proofs.Local.{Whole, location_first, same_of, same_is_first, Loc, Local, loc_same, loc_on, loc_if, loc_next, loc_cond, loc_first, loc_after, loc_give, loc_err, loc_refused, loc_unexpected}
use Rattle.mlir_syntax.proofs.LocalParts.{local_want, local_word, local_name, local_symbol, local_number, local_integer, local_some, local_until, local_type, local_field, local_maybe, local_aggregate}
use Rattle.mlir_operations.proofs.LocalOperands.{local_operand, local_maybe_results}

-- ---- pieces

local_as_known : {A : Type 0} (op : OpName) (o : Option A) → Local (λ s. as_known op s o)
local_as_known op None c n = loc_unexpected op
local_as_known op (Some x) c n = loc_after (loc_give {y = x})

local_known : {A : Type 0} (op : OpName) (f : List ℕ → Option A) → Local (λ s. as_known op s (option_and_then f (bare_text (first s))))
local_known op f c n = loc_first (λ o _ s. as_known op s (option_and_then f (bare_text o))) (λ o. local_as_known op (option_and_then f (bare_text o)) c n)

local_string : (op : OpName) → Local (string_text op)
unfolding string_text
local_string op c n = loc_on (local_want op kind.StringLiteral c n) (λ t. loc_give {y = content_of kind.StringLiteral t.text})

local_group : (op : OpName) → Local (group_text op)
unfolding group_text
local_group op c n = loc_on (local_want op kind.LeftParenthesis c n) (λ _. local_until op kind.RightParenthesis (local_operand op) c n)

local_further : (op : OpName) (m : ℕ) → Local (further_types op m)
unfolding further_types any_type
local_further op zero c n = loc_give {y = []}
local_further op (suc m) c n =
    loc_on (local_want op kind.Comma c n) (λ _. loc_on (local_type most_open op c n) (λ t. loc_on (local_further op m c n) (λ ts. loc_give {y = t ∷ ts})))

local_types : (op : OpName) (m : ℕ) → Local (types_text op m)
unfolding types_text any_type
local_types op zero c n = loc_give {y = []}
local_types op (suc m) c n = loc_on (local_type most_open op c n) (λ t. loc_on (local_further op m c n) (λ ts. loc_give {y = t ∷ ts}))

local_reset_operands : (op : OpName) (e : InherentAttributes) (g : Gathered) → Local (reset_operands op e g)
unfolding reset_operands
local_reset_operands op e g c n =
    loc_on (local_operand op c n) (λ r. loc_on (local_want op kind.Comma c n) (λ _. loc_on (local_operand op c n) (λ v.
    loc_give {y = with_inherent (with_operands g (r ∷ v ∷ [])) e})))

local_reset : (op : OpName) (g : Gathered) → Local (reset_text op g)
unfolding reset_text
local_reset op g c n = loc_next (is_word (codes "reset")) (loc_after (local_reset_operands op with_reset g c n)) (loc_give {y = g})

local_mode : (op : OpName) → Local (reset_mode op)
unfolding reset_mode
local_mode op c n =
    loc_next (is_word (codes "async")) (loc_after (loc_give {y = with_async_reset})) (loc_on (local_word op (codes "sync") c n) (λ _. loc_give {y = with_reset}))

local_sync_or_async_reset : (op : OpName) (g : Gathered) → Local (sync_or_async_reset_text op g)
unfolding sync_or_async_reset_text
local_sync_or_async_reset op g c n =
    loc_next (is_word (codes "reset")) (loc_on (loc_after (local_mode op c n)) (λ e. local_reset_operands op e g c n)) (loc_give {y = g})

local_input : (op : OpName) → Local (input_text op)
unfolding input_text any_type
local_input op c n =
    loc_on (local_name op c n) (λ port. loc_on (local_want op kind.Colon c n) (λ _. loc_on (local_operand op c n) (λ o. loc_on (local_want op kind.Colon c n) (λ _.
    loc_on (local_type most_open op c n) (λ t. loc_give {y = record { port = port; operand = o; type = t }})))))

local_output : (op : OpName) → Local (output_text op)
unfolding output_text
local_output op = local_field op (local_type most_open op)

local_inner : (op : OpName) → Local (inner_symbol op)
unfolding inner_symbol
local_inner op c n =
    loc_next (is_word (codes "sym")) (loc_on (loc_after (local_symbol op c n)) (λ name. loc_give {y = Some name})) (loc_give {y = None})

pub local_module_symbol : (op : OpName) → Local (module_symbol op)
unfolding module_symbol
local_module_symbol op c n =
    loc_on (local_symbol op c n) (λ name. loc_next (λ t. is_kind t.kind kind.Less) (loc_refused OutsideProfile op) (loc_give {y = name}))

local_inputs : (op : OpName) → Local (inputs_text op)
unfolding inputs_text
local_inputs op c n = loc_on (local_want op kind.LeftParenthesis c n) (λ _. local_until op kind.RightParenthesis (local_input op) c n)

local_outputs : (op : OpName) → Local (outputs_text op)
unfolding outputs_text
local_outputs op c n =
    loc_on (local_want op kind.Arrow c n) (λ _. loc_on (local_want op kind.LeftParenthesis c n) (λ _. local_until op kind.RightParenthesis (local_output op) c n))

local_instance : (op : OpName) (g : Gathered) → Local (instance_text op g)
unfolding instance_text
local_instance op g c n =
    loc_on (local_string op c n) (λ name. loc_on (local_inner op c n) (λ inner. loc_on (local_module_symbol op c n) (λ symbol. loc_on (local_inputs op c n) (λ ins.
    loc_on (local_outputs op c n) (λ outs. loc_give {y = with_instance g (instance_with name inner symbol ins outs) ins outs})))))

local_element : (op : OpName) (p : FormatElement) (g : Gathered) → Local (element_text op p g)
unfolding element_text predicate_text truth_text any_type
local_element op (element.Mark k) g c n = loc_on (local_want op k c n) (λ _. loc_give {y = g})
local_element op (element.Word w) g c n = loc_on (local_word op (text_of_keyword w) c n) (λ _. loc_give {y = g})
local_element op element.Operand g c n = loc_on (local_operand op c n) (λ o. loc_give {y = with_operands g (o ∷ [])})
local_element op element.Operands g c n = loc_on (local_some op (local_operand op) c n) (λ os. loc_give {y = with_operands g os})
local_element op element.Group g c n = loc_on (local_group op c n) (λ os. loc_give {y = with_operands g os})
local_element op element.Predicate g c n = loc_on (local_known op predicate_named c n) (λ p. loc_give {y = with_inherent g (predicate p)})
local_element op element.Number g c n = loc_on (local_number count_limit op c n) (λ x. loc_give {y = with_inherent g (position x)})
local_element op element.Truth g c n =
    loc_on (local_known op truth_named c n) (λ b. loc_give {y = with_inherent (with_types g (int 1 ∷ [])) (number (truth_number b))})
local_element op element.Integer g c n = loc_on (local_integer op c n) (λ z. loc_give {y = with_inherent g (number z)})
local_element op element.Literals g c n = loc_on (local_aggregate op c n) (λ ls. loc_give {y = with_inherent g (literals ls)})
local_element op element.Field g c n = loc_on (local_string op c n) (λ name. loc_give {y = with_inherent g (field_name name)})
local_element op element.Instance g c n = local_instance op g c n
local_element op element.Reset g c n = local_reset op g c n
local_element op element.SyncOrAsyncReset g c n = local_sync_or_async_reset op g c n
local_element op element.Type g c n = loc_on (local_type most_open op c n) (λ t. loc_give {y = with_types g (t ∷ [])})
local_element op element.Types g c n = loc_on (local_types op (length g.operands) c n) (λ ts. loc_give {y = with_types g ts})

local_elements : (op : OpName) (ps : List FormatElement) (g : Gathered) → Local (elements_text op ps g)
local_elements op [] g c n = loc_give {y = g}
local_elements op (p ∷ ps) g c n = loc_on (local_element op p g c n) (λ h. local_elements op ps h c n)

-- ---- operations

local_bin : (o : Listed) → Local (bin_text o)
unfolding bin_text
local_bin o c n =
    loc_if (λ s. takes_bin o && is_first (is_word (codes "bin")) s) (λ x y h. ap (λ b. takes_bin o && b) (same_is_first (is_word (codes "bin")) x y h))
    (loc_after (loc_give {y = true})) (loc_give {y = false})

local_late : (op : OpName) (keys : List Name) (early : Option (List Entry)) → Local (late_dictionary op keys early)
unfolding late_dictionary
local_late op keys (Some es) c n = loc_give {y = es}
local_late op keys None c n = loc_on (local_maybe op keys c n) (λ es. loc_give {y = given_entries es})

local_form : (op : OpName) (keys : List Name) (format : Format) → Local (form_text op keys format)
unfolding form_text
local_form op keys format c n =
    loc_on (local_elements op (prefix_elements format) gathered_nothing c n) (λ g. loc_on (local_maybe op keys c n) (λ es.
    loc_on (local_elements op (type_elements format) g c n) (λ h. loc_on (local_late op keys es c n) (λ all. loc_give {y = record { gathered = h; dictionary = all }}))))

local_named : (results : ResultNames) (o : Listed) (location : Location) → Local (named_operation results o location)
unfolding named_operation
local_named results o location c n =
    loc_on (local_bin o c n) (λ bin.
    loc_on (loc_first (λ next _ s. form_text (op.Listed o) (string_keys o) (format_of o next) s) (λ next. local_form (op.Listed o) (string_keys o) (format_of o next) c n))
    (λ t. loc_give {y = record { results = results; name = o; bin = bin; gathered = t.gathered; dictionary = t.dictionary; location = location }}))

alike_no_operation : (around : OpName) (y : StreamToken) (a b : List StreamToken) → no_operation around (y ∷ a) ≡ no_operation around (y ∷ b)
unfolding no_operation
alike_no_operation around (token t) a b = refl
alike_no_operation around (bad p) a b = refl
alike_no_operation around (end p) a b = refl

location_of_either : (b : Bool) (p : Location) (o : OpName) (x y : Cause) → p ≡ Refusal.location (cond b (refusal p o x) (refusal p o y))
location_of_either true p o x y = refl
location_of_either false p o x y = refl

location_no_operation : (around : OpName) (u : List StreamToken) → Whole u → location_first u ≡ (no_operation around u).location
unfolding no_operation
location_no_operation around [] w = refl
location_no_operation around (token t ∷ u) w = location_of_either (is_outside t) t.location around OutsideProfile (cause_of_first t)
location_no_operation around (bad p ∷ u) w = refl
location_no_operation around (end p ∷ u) w = refl

pub loc_no_operation : {A : Type 0} {c n : ℕ} (around : OpName) → Loc {A = A} c n (λ _ s. Err (no_operation around s))
loc_no_operation around = loc_err (no_operation around) (same_of (no_operation around) (alike_no_operation around)) (location_no_operation around)

pub loc_misplaced : {A : Type 0} {c n : ℕ} (around : OpName) (t : TextToken) (class : NameClass) → Loc {A = A} c n (λ _ s. Err (misplaced_refusal around s t class))
unfolding misplaced_refusal
loc_misplaced around t (operation o) = loc_refused Unexpected (op.Listed o)
loc_misplaced around t module_name = loc_refused Unexpected (op.Listed listed.HwModule)
loc_misplaced around t file_name = loc_refused Unexpected op.File
loc_misplaced around t locations = loc_refused OutsideProfile around
loc_misplaced around t outside = loc_refused OutsideProfile (op.Other t.at (length t.text))
loc_misplaced around t unknown = loc_refused UnknownOperation (op.Other t.at (length t.text))

local_classed : (results : ResultNames) (t : TextToken) (class : NameClass) → Local (λ s. classed_operation results s t class)
unfolding classed_operation
local_classed results t (operation o) c n = loc_after (local_named results o t.location c n)
local_classed results t module_name c n = loc_misplaced (op.Listed listed.HwModule) t module_name
local_classed results t file_name c n = loc_misplaced (op.Listed listed.HwModule) t file_name
local_classed results t locations c n = loc_misplaced (op.Listed listed.HwModule) t locations
local_classed results t outside c n = loc_misplaced (op.Listed listed.HwModule) t outside
local_classed results t unknown c n = loc_misplaced (op.Listed listed.HwModule) t unknown

-- what stands after the names of results, by its first token
abbrev OperationAt : ResultNames → Option TextToken → ℕ → Reads OperationText
OperationAt results None k s = Err (no_operation (op.Listed listed.HwModule) s)
OperationAt results (Some t) k s =
    cond (is_kind t.kind kind.BareName) (classed_operation results s t (class_of t.text)) (Err (no_operation (op.Listed listed.HwModule) s))

operation_same : (results : ResultNames) (k : ℕ) (s : List StreamToken) → operation_after results s ≡ OperationAt results (first s) k s
unfolding operation_after
operation_same results k [] = refl
operation_same results k (token t ∷ ts) = refl
operation_same results k (bad p ∷ ts) = refl
operation_same results k (end p ∷ ts) = refl

loc_operation_at : {c n : ℕ} (results : ResultNames) (o : Option TextToken) → Loc c n (OperationAt results o)
loc_operation_at results None = loc_no_operation (op.Listed listed.HwModule)
loc_operation_at {c} {n} results (Some t) =
    loc_cond (is_kind t.kind kind.BareName) (local_classed results t (class_of t.text) c n) (loc_no_operation (op.Listed listed.HwModule))

local_after : (results : ResultNames) → Local (operation_after results)
local_after results c n = loc_same (operation_same results) (loc_first (OperationAt results) (loc_operation_at results))

pub local_operation : Local operation_text
unfolding operation_text
local_operation c n = loc_on (local_maybe_results (op.Listed listed.HwModule) c n) (λ r. local_after r c n)

-- ---- what is read of an operation or a module is some token at least

none_of : (b f : List TextToken) (t : TextToken) → [] ≡ b ++ (t ∷ f) → ⊥
none_of [] f t h = absurd cc
none_of (x ∷ b) f t h = absurd cc

longer : (a : List TextToken) (s left : List StreamToken) → ([] ≡ a → ⊥) → s ≡ map token a ++ left → length left < length s
longer [] s left some e = absurd (some refl)
longer (t ∷ a) s left some e = let h = prefix_short a left in let l = ap length e in omega (arith, h, l)
  where
    prefix_short : (a : List TextToken) (w : List StreamToken) → length w ≤ length (map token a ++ w)
    prefix_short [] w = omega arith
    prefix_short (t ∷ a) w = let h = prefix_short a w in omega (arith, h)

pub takes_operation : (s left : List StreamToken) (x : OperationText) → operation_text s ≡ Ok (x, left) → length left < length s
takes_operation s left x h =
    let (a, e, p) = sound_operation.said s left x h in
    let r = p.1 in
    let q = r.4 in
    longer a s left (λ none. none_of r.0 q.1 q.3.0 (none ∙ r.2 ∙ ap (λ y. r.0 ++ y) (q.2 ∙ ap (λ y. y ++ q.1) q.3.1))) e

pub takes_module : (s left : List StreamToken) (x : ModuleText) → module_text s ≡ Ok (x, left) → length left < length s
takes_module s left x h =
    let (a, e, p) = sound_module.said s left x h in
    longer a s left (λ none. none_of [] p.1 p.3.0 (none ∙ p.2 ∙ ap (λ y. y ++ p.1) p.3.1)) e
