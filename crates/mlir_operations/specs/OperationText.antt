-- The text of an operation, and of the body of a module.
use Rattle.std.specs.Prelude.{ℕ, zero, suc, Bool, true, false, cond, ◌&&◌, not, ◌==◌, List, [], ◌∷◌, length, Option, Some, None, Ok, Err, codes}
use Rattle.diag.specs.declared.refusal.Location.{Location}
use Rattle.diag.specs.declared.refusal.Refusal.{Refusal}
use Rattle.diag.specs.declared.refusal.OpName.{OpName}
use Rattle.diag.specs.declared.refusal.OpName.TheVariants as op
use Rattle.diag.specs.declared.cause.Cause.TheVariants.{Unexpected, UnknownOperation, OutsideProfile}
use Rattle.opcode.specs.declared.listed.Listed.{Listed}
use Rattle.opcode.specs.declared.listed.Listed.TheVariants as listed
use Rattle.opcode.specs.Listed.{first_named}
use Rattle.opcode.specs.Listed.{listed_operations}
use Rattle.hw_model.specs.Types.{Name}
use Rattle.hw_model.specs.Design.{Entry, same_name}
use Rattle.mlir_lexer.specs.Runs.{run}
use Rattle.mlir_lexer.specs.Tokens.{TextToken}
use Rattle.mlir_lexer.specs.declared.token.TokenKind.TheVariants as kind
use Rattle.mlir_syntax.specs.Stream.{StreamToken, token, bad, end, first, is_first, is_next, is_word, after, refusal_at, unexpected_refusal}
use Rattle.mlir_lexer.specs.TokenKinds.{is_kind}
use Rattle.mlir_syntax.specs.Reads.{Reads, Read, on}
use Rattle.mlir_syntax.specs.AttributeText.{maybe_dictionary, is_among}
use Rattle.mlir_operations.specs.OperandText.{ResultNames, maybe_results}
use Rattle.assembly_format.specs.Formats.{format_of, prefix_elements, type_elements}
use Rattle.mlir_operations.specs.ElementText.{Gathered, gathered_nothing, elements_text}
use Rattle.assembly_format.specs.declared.elements.Format.{Format}
use Rattle.stored_form.specs.Dictionaries.{dialect, takes_bin, string_keys}

-- ---- names of operations

-- the names of the module that a file is
abbrev pub file_names : List Name
file_names = codes "module" ∷ codes "builtin.module" ∷ []

-- operations of HW, Comb and Seq that are left out
abbrev pub left_out : List Name
left_out =
    codes "hw.module.extern" ∷ codes "hw.module.generated" ∷ codes "hw.hierpath" ∷ codes "comb.truth_table" ∷ codes "comb.reverse"
    ∷ codes "seq.firmem" ∷ codes "seq.hlmem" ∷ codes "seq.fifo" ∷ codes "seq.shiftreg" ∷ codes "seq.to_clock" ∷ codes "seq.from_clock"
    ∷ codes "seq.clock_gate" ∷ codes "seq.clock_mux" ∷ codes "seq.clock_div" ∷ []

-- the dialects of which an unknown name is no operation
abbrev pub known_dialects : List Name
known_dialects = codes "hw" ∷ codes "comb" ∷ codes "seq" ∷ codes "builtin" ∷ []

-- whether a name has a dot and another dialect
abbrev pub is_foreign : Name → Bool
is_foreign name = not (run (λ b. not (b == 46)) name == length name) && not (is_among (dialect name) known_dialects)

-- what a name means in an operation's or a module's location
pub data NameClass : Type 0 where
  operation : Listed → NameClass
  module_name file_name locations outside unknown : NameClass

-- a listed operation, or else the module of the hw dialect
abbrev pub class_of_listed : Listed → NameClass
class_of_listed listed.HwModule = module_name
class_of_listed o = operation o

-- the class of a name that is no listed one
unfoldable pub class_of_other : Name → NameClass
class_of_other name =
    cond (is_among name file_names) file_name
    (cond (same_name (codes "loc") name) locations
    (cond (is_among name left_out) outside
    (cond (is_foreign name) outside unknown)))

abbrev pub class_by : Name → Option Listed → NameClass
class_by name (Some o) = class_of_listed o
class_by name None = class_of_other name

-- the class of a name
abbrev pub class_of : Name → NameClass
class_of name = class_by name (first_named name listed_operations)

-- the operation that a refusal names for a token
abbrev pub other_name : TextToken → OpName
other_name t = op.Other t.at (length t.text)

-- the refusal of a name where no operation of its class may stand; a location stands nowhere
unfoldable pub misplaced_refusal : OpName → List StreamToken → TextToken → NameClass → Refusal
misplaced_refusal around s t (operation o) = refusal_at Unexpected (op.Listed o) s
misplaced_refusal around s t module_name = refusal_at Unexpected (op.Listed listed.HwModule) s
misplaced_refusal around s t file_name = refusal_at Unexpected op.File s
misplaced_refusal around s t locations = refusal_at OutsideProfile around s
misplaced_refusal around s t outside = refusal_at OutsideProfile (other_name t) s
misplaced_refusal around s t unknown = refusal_at UnknownOperation (other_name t) s

-- whether a token that is no name is outside the profile in an operation's location: a string, an alias
abbrev pub is_outside : TextToken → Bool
is_outside t = cond (is_kind t.kind kind.StringLiteral) true (cond (is_kind t.kind kind.AttributeAlias) true (is_kind t.kind kind.TypeName))

-- the refusal of a first token that is no name, in an operation's or a module's location
unfoldable pub no_operation : OpName → List StreamToken → Refusal
no_operation around s = cond (is_first is_outside s) (refusal_at OutsideProfile around s) (unexpected_refusal around s)

-- ---- operations

-- `bin`, or nothing
unfoldable pub bin_text : Listed → Reads Bool
bin_text o s = cond (takes_bin o && is_first (is_word (codes "bin")) s) (Ok (true, after s)) (Ok (false, s))

-- an operation as its text says it: the names of its results, its name, its `bin` mark, what is gathered, its dictionary, and its location
pub record OperationText : Type 0 where
  pub results : ResultNames
  pub name : Listed
  pub bin : Bool
  pub gathered : Gathered
  pub dictionary : List Entry
  pub location : Location

-- a dictionary that stands once, before the types or after them
abbrev pub given_entries : Option (List Entry) → List Entry
given_entries None = []
given_entries (Some es) = es

-- a dictionary after the types, where none stands before them
unfoldable pub late_dictionary : OpName → List Name → Option (List Entry) → Reads (List Entry)
late_dictionary op keys (Some es) s = Ok (es, s)
late_dictionary op keys None s = on (maybe_dictionary op keys s) (λ es left. Ok (given_entries es, left))

-- what is after the name of an operation
pub record Tail : Type 0 where
  pub gathered : Gathered
  pub dictionary : List Entry

-- the pieces of a form, and a dictionary
unfoldable pub form_text : OpName → List Name → Format → Reads Tail
form_text op keys format s =
    on (elements_text op (prefix_elements format) gathered_nothing s) (λ g s1. on (maybe_dictionary op keys s1) (λ es s2.
    on (elements_text op (type_elements format) g s2) (λ h s3. on (late_dictionary op keys es s3) (λ all s4.
    Ok (record { gathered = h; dictionary = all }, s4)))))

-- an operation after its name
unfoldable pub named_operation : ResultNames → Listed → Location → Reads OperationText
named_operation results o location s =
    on (bin_text o s) (λ bin s1. on (form_text (op.Listed o) (string_keys o) (format_of o (first s1)) s1) (λ t s2.
    Ok (record { results = results; name = o; bin = bin; gathered = t.gathered; dictionary = t.dictionary; location = location }, s2)))

-- an operation of a class
unfoldable pub classed_operation : ResultNames → List StreamToken → TextToken → NameClass → Read OperationText
classed_operation results s t (operation o) = named_operation results o t.location (after s)
classed_operation results s t module_name = Err (misplaced_refusal (op.Listed listed.HwModule) s t module_name)
classed_operation results s t file_name = Err (misplaced_refusal (op.Listed listed.HwModule) s t file_name)
classed_operation results s t locations = Err (misplaced_refusal (op.Listed listed.HwModule) s t locations)
classed_operation results s t outside = Err (misplaced_refusal (op.Listed listed.HwModule) s t outside)
classed_operation results s t unknown = Err (misplaced_refusal (op.Listed listed.HwModule) s t unknown)

-- an operation whose results are named so
unfoldable pub operation_after : ResultNames → Reads OperationText
operation_after results [] = Err (no_operation (op.Listed listed.HwModule) [])
operation_after results (token t ∷ ts) =
    cond (is_kind t.kind kind.BareName) (classed_operation results (token t ∷ ts) t (class_of t.text)) (Err (no_operation (op.Listed listed.HwModule) (token t ∷ ts)))
operation_after results (bad p ∷ ts) = Err (no_operation (op.Listed listed.HwModule) (bad p ∷ ts))
operation_after results (end p ∷ ts) = Err (no_operation (op.Listed listed.HwModule) (end p ∷ ts))

-- an operation
unfoldable pub operation_text : Reads OperationText
operation_text s = on (maybe_results (op.Listed listed.HwModule) s) (λ r left. operation_after r left)

-- whether an operation is a module's output, which is the last of a body
abbrev pub is_last : Listed → Bool
is_last listed.HwOutput = true
is_last _ = false

-- operations up to the closing brace, so many at most; what is left begins with it
unfoldable pub operations_text : ℕ → Reads (List OperationText)
operations_text zero s = Err (unexpected_refusal (op.Listed listed.HwModule) s)
operations_text (suc n) s =
    cond (is_next kind.RightBrace s) (Ok ([], s))
    (on (operation_text s) (λ o left. cond (is_last o.name)
    (cond (is_next kind.RightBrace left) (Ok (o ∷ [], left)) (Err (unexpected_refusal (op.Listed listed.HwModule) left)))
    (on (operations_text n left) (λ os following. Ok (o ∷ os, following)))))
