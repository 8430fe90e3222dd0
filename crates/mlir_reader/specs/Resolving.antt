-- From what a text says to the design: kinds, dictionaries, and the values that names stand for.
use Rattle.std.specs.Prelude.{ℕ, ◌+◌, Bool, true, false, cond, ◌==◌, nat_lt, not, min, max, replicate as times, List, [], ◌∷◌, ◌++◌, length, map, Option, Some, None, is_some, ℤ, pos}
use Rattle.std.specs.Ordering.{nat_cmp, is_lt}
use Rattle.std.specs.Cmp.Lexicographic.{slice_cmp}
use Rattle.diag.specs.declared.refusal.Location as code
use Rattle.opcode.specs.declared.listed.Listed.{Listed}
use Rattle.opcode.specs.declared.listed.Listed.TheVariants as listed
use Rattle.hw_model.specs.Types.{Name, HwType}
use Rattle.hw_model.specs.Types.HwType.{int}
use Rattle.hw_model.specs.Kinds.{Kind, Predicate, Reset, Literals, Instance}
use Rattle.hw_model.specs.Kinds.Predicate.{eq}
use Rattle.hw_model.specs.Kinds.Reset.{no_reset, sync_reset}
use Rattle.hw_model.specs.Kinds.Literals.{no_literals}
use Rattle.hw_model.specs.Kinds.StructOp.{struct_extract, struct_inject}
use Rattle.hw_model.specs.Kinds.RegisterOp.{compreg, compreg_ce, firreg}
use Rattle.hw_model.specs.Kinds.Kind.{icmp, extract, constant, aggregate_constant, on_struct, instance, output, register, async_firreg}
use Rattle.hw_model.specs.Opcodes.{kind_named_by}
use Rattle.hw_model.specs.Design.{Attribute, Entry, Ref, Port, OpResult, Op, Module, Design, same_name}
use Rattle.hw_model.specs.Design.Attribute.{text_value}
use Rattle.hw_model.specs.Design.Ref.{port, result, undefined}
use Rattle.mlir_lexer.specs.Classes.{is_digit}
use Rattle.mlir_lexer.specs.Runs.{run}
use Rattle.ir_store.specs.OperationViews.{location_of}
use Rattle.type_inference.specs.ResultTypes.{result_types, result_count}
use Rattle.mlir_operations.specs.OperandText.{OperandName, ResultNames, named_count}
use Rattle.mlir_operations.specs.OperandText.ResultNames.{no_names, names, pack}
use Rattle.mlir_operations.specs.ElementText.{InherentAttributes}
use Rattle.mlir_operations.specs.ElementText.InherentAttributes.{with_reset, with_async_reset, predicate, position, number, literals, field_name, child}
use Rattle.mlir_operations.specs.OperationText.{OperationText, is_last}
use Rattle.mlir_operations.specs.ModuleText.{PortText, ModuleText}
use Rattle.stored_form.specs.ResultTypes.{type_or_none}
use Rattle.stored_form.specs.Dictionaries.{has_name, is_name_entry, is_dropped}
use Rattle.stored_form.specs.Constants.{kept_by_first, kept_literals}

-- ---- constants

-- ---- kinds

-- what the text says of one thing, or what it never leaves out
abbrev pub inherent_predicate : InherentAttributes → Predicate
inherent_predicate (predicate p) = p
inherent_predicate _ = eq

abbrev pub inherent_position : InherentAttributes → ℕ
inherent_position (position n) = n
inherent_position _ = 0

abbrev pub inherent_number : InherentAttributes → ℤ
inherent_number (number z) = z
inherent_number _ = pos 0

abbrev pub inherent_literals : InherentAttributes → Literals
inherent_literals (literals ls) = ls
inherent_literals _ = no_literals

abbrev pub inherent_field : InherentAttributes → Name
inherent_field (field_name name) = name
inherent_field _ = []

abbrev pub inherent_instance : InherentAttributes → Instance
inherent_instance (child i) = i
inherent_instance _ = record { name = []; inner_symbol = None; symbol = []; inputs = []; outputs = [] }

abbrev pub inherent_reset : InherentAttributes → Reset
inherent_reset with_reset = sync_reset
inherent_reset _ = no_reset

-- the kind of a `seq.firreg` by its reset
abbrev pub firreg_kind : InherentAttributes → Kind
firreg_kind with_async_reset = async_firreg
firreg_kind e = register firreg (inherent_reset e)

-- the kind of an operation that its name and the rest of its text tell
unfoldable pub inherent_kind : Listed → InherentAttributes → List HwType → Kind
inherent_kind listed.CombIcmp e ts = icmp (inherent_predicate e)
inherent_kind listed.CombExtract e ts = extract (inherent_position e)
inherent_kind listed.HwConstant e ts = constant (kept_by_first ts (inherent_number e))
inherent_kind listed.HwAggregateConstant e ts = aggregate_constant (kept_literals (inherent_literals e))
inherent_kind listed.HwStructExtract e ts = on_struct (struct_extract (inherent_field e))
inherent_kind listed.HwStructInject e ts = on_struct (struct_inject (inherent_field e))
inherent_kind listed.HwInstance e ts = instance (inherent_instance e)
inherent_kind listed.SeqCompreg e ts = register compreg (inherent_reset e)
inherent_kind listed.SeqCompregCe e ts = register compreg_ce (inherent_reset e)
inherent_kind listed.SeqFirreg e ts = firreg_kind e
inherent_kind _ e ts = output

abbrev pub kind_or : Option Kind → Kind → Kind
kind_or None k = k
kind_or (Some k) other = k

-- the kind of an operation
abbrev pub kind_named : Listed → InherentAttributes → List HwType → Kind
kind_named o e ts = kind_or (kind_named_by o) (inherent_kind o e ts)

-- ---- dictionaries and names

-- an entry put among others by the bytes of its key, after those whose key is less
abbrev pub put_entry : Entry → List Entry → List Entry
put_entry e [] = e ∷ []
put_entry e (x ∷ xs) = cond (is_lt (slice_cmp nat_cmp x.key e.key)) (x ∷ put_entry e xs) (e ∷ x ∷ xs)

-- entries by the bytes of their keys
abbrev pub sort_entries : List Entry → List Entry
sort_entries [] = []
sort_entries (e ∷ es) = put_entry e (sort_entries es)

-- the entries that meet no test
abbrev pub without : (Entry → Bool) → List Entry → List Entry
without test [] = []
without test (e ∷ es) = cond (test e) (without test es) (e ∷ without test es)

-- the entries that are kept of an operation
abbrev pub kept_entries : Listed → List Entry → List Entry
kept_entries o es = sort_entries (without (is_dropped o) es)

-- the entries that are kept of a module, which has no name of its own
abbrev pub kept_module_entries : List Entry → List Entry
kept_module_entries es = kept_entries listed.HwModule es

-- the text of an attribute that is one
abbrev pub text_in : Attribute → Name
text_in (text_value text) = text
text_in _ = []

-- the name that a dictionary gives
abbrev pub given_name : List Entry → Option Name
given_name [] = None
given_name (e ∷ es) = cond (is_name_entry e) (Some (text_in e.value)) (given_name es)

-- a value's name as a name of its own: digits alone are none
abbrev pub unless_digits : Name → Name
unless_digits name = cond (run is_digit name == length name) [] name

abbrev pub first_name : ResultNames → Name
first_name no_names = []
first_name (names n ns) = unless_digits n
first_name (pack n k) = unless_digits n

abbrev pub name_or : Option Name → Name → Name
name_or (Some name) other = name
name_or None other = other

-- the own name of a register or a wire; other operations have none
abbrev pub own_name_of : Listed → ResultNames → List Entry → Name
own_name_of o rs es = cond (has_name o) (name_or (given_name es) (first_name rs)) []

abbrev pub own_name : OperationText → Name
own_name o = own_name_of o.name o.results o.dictionary

-- ---- definitions

-- what a name stands for: a port, or so many results of an operation from one on
pub data Defined : Type 0 where
  is_port : ℕ → Defined
  are_results : ℕ → ℕ → ℕ → Defined

pub record Definition : Type 0 where
  pub name : Name
  pub defined : Defined

-- the definition that a port's value name makes
abbrev pub port_definition : ℕ → Option Name → List Definition
port_definition j None = []
port_definition j (Some name) = record { name = name; defined = is_port j } ∷ []

-- the names that ports define, from a position on
abbrev pub port_definitions : ℕ → List PortText → List Definition
port_definitions j [] = []
port_definitions j (p ∷ ps) = port_definition j p.value ++ port_definitions (j + 1) ps

-- the results that an operation has of its own
abbrev pub own_types : OperationText → List (Option HwType)
own_types o = result_types (kind_named o.name o.gathered.inherent o.gathered.types) o.gathered.types (length o.gathered.operands)

-- how many they are
abbrev pub own_count : OperationText → ℕ
own_count o = result_count (kind_named o.name o.gathered.inherent o.gathered.types) o.gathered.types

-- names one by one, from a result of an operation on
abbrev pub names_from : ℕ → ℕ → List Name → List Definition
names_from i k [] = []
names_from i k (n ∷ ns) = record { name = n; defined = are_results i k 1 } ∷ names_from i (k + 1) ns

-- the names that an operation at a position defines: a pack speaks for results of its own alone
abbrev pub names_defined : ℕ → ℕ → ResultNames → List Definition
names_defined i own no_names = []
names_defined i own (names n ns) = names_from i 0 (n ∷ ns)
names_defined i own (pack n k) = cond (k == 0) [] (record { name = n; defined = are_results i 0 (min k own) } ∷ [])

abbrev pub operation_definitions : ℕ → OperationText → List Definition
operation_definitions i o = names_defined i (own_count o) o.results

-- the names that operations define, from a position on
abbrev pub body_definitions : ℕ → List OperationText → List Definition
body_definitions i [] = []
body_definitions i (o ∷ os) = operation_definitions i o ++ body_definitions (i + 1) os

-- what names stand for
abbrev pub Meanings : Type 0
Meanings = Name → Option Defined

-- before any definition a name stands for nothing
abbrev pub no_meaning : Meanings
no_meaning name = None

-- what is known, or else what is new
abbrev pub known_or : Option Defined → Option Defined → Option Defined
known_or None new = new
known_or (Some d) new = Some d

-- with one more definition: a name that stands for something already keeps it
abbrev pub with_definition : Meanings → Definition → Meanings
with_definition means d name = known_or (means name) (cond (same_name name d.name) (Some d.defined) None)

-- with further definitions, in order
abbrev pub with_definitions : Meanings → List Definition → Meanings
with_definitions means [] = means
with_definitions means (d ∷ ds) = with_definitions (with_definition means d) ds

-- what a number of a pack stands for
abbrev pub ref_in : Option Defined → ℕ → Ref
ref_in None n = undefined
ref_in (Some (is_port j)) n = cond (n == 0) (port j) undefined
ref_in (Some (are_results i k count)) n = cond (nat_lt n count) (result i (k + n)) undefined

-- the value that an operand names
abbrev pub resolve_operand : Meanings → OperandName → Ref
resolve_operand means o = ref_in (means o.name) o.number

-- ---- marks of names that were defined earlier

-- how many results have the mark of a name: those that it speaks for, and one where it speaks for none
abbrev pub mark_count : Defined → ℕ
mark_count (is_port j) = 1
mark_count (are_results i k count) = max 1 count

-- of each result that definitions speak for, whether its name stands for something earlier
abbrev pub marks : Meanings → List Definition → List Bool
marks earlier [] = []
marks earlier (d ∷ ds) = times (mark_count d.defined) (is_some (earlier d.name)) ++ marks (with_definition earlier d) ds

-- results of these types with their marks; a name without a result has one of no type
abbrev pub marked_results : List (Option HwType) → List Bool → List OpResult
marked_results [] [] = []
marked_results [] (m ∷ ms) = record { type = int 0; again = m } ∷ marked_results [] ms
marked_results (t ∷ ts) [] = record { type = type_or_none t; again = false } ∷ marked_results ts []
marked_results (t ∷ ts) (m ∷ ms) = record { type = type_or_none t; again = m } ∷ marked_results ts ms

-- ---- operations

-- an operation at a position of a body, where names stand for this, and some for something earlier
abbrev pub operation_at : Meanings → Meanings → ℕ → OperationText → Op
operation_at means earlier i o = record {
  kind = kind_named o.name o.gathered.inherent o.gathered.types;
  operands = map (resolve_operand means) o.gathered.operands;
  types = o.gathered.types;
  results = marked_results (own_types o) (marks earlier (operation_definitions i o));
  named = named_count o.results;
  name = own_name o;
  dictionary = kept_entries o.name o.dictionary;
  bin = o.bin;
  location = location_of o.location;
}

-- the operations of a body, from a position on
abbrev pub operations_from : Meanings → Meanings → ℕ → List OperationText → List Op
operations_from means earlier i [] = []
operations_from means earlier i (o ∷ os) =
    operation_at means earlier i o ∷ operations_from means (with_definitions earlier (operation_definitions i o)) (i + 1) os

-- ---- modules

-- whether a port's value name stands for something earlier
abbrev pub is_marked : Meanings → Option Name → Bool
is_marked earlier None = false
is_marked earlier (Some name) = is_some (earlier name)

-- the ports, from a position on, where some names stand for something earlier
abbrev pub ports_from : Meanings → ℕ → List PortText → List Port
ports_from earlier j [] = []
ports_from earlier j (p ∷ ps) =
    record { name = p.name; is_output = not (is_some p.value); type = p.type; again = is_marked earlier p.value }
    ∷ ports_from (with_definitions earlier (port_definition j p.value)) (j + 1) ps

-- whether a port is an output
abbrev pub has_outputs : List PortText → Bool
has_outputs [] = false
has_outputs (p ∷ ps) = cond (is_some p.value) (has_outputs ps) true

abbrev pub ends_with_output : List OperationText → Bool
ends_with_output [] = false
ends_with_output (o ∷ os) = cond (is_last o.name) true (ends_with_output os)

-- the output of a module that leaves it out: without values and dictionary, at the closing brace
abbrev pub left_out_output : code.Location → Op
left_out_output location = record {
  kind = output;
  operands = [];
  types = [];
  results = [];
  named = 0;
  name = [];
  dictionary = [];
  bin = false;
  location = location_of location;
}

-- a module without output ports may leave its output out
abbrev pub with_output : ModuleText → List Op → List Op
with_output m os = cond (ends_with_output m.operations) os (cond (has_outputs m.ports) os (os ++ left_out_output m.close ∷ []))

-- what the names of its ports stand for
abbrev pub port_meanings : List PortText → Meanings
port_meanings ps = with_definitions no_meaning (port_definitions 0 ps)

-- what the names of a module stand for
abbrev pub meanings : ModuleText → Meanings
meanings m = with_definitions (port_meanings m.ports) (body_definitions 0 m.operations)

-- the module that a text says
abbrev pub module_of : ModuleText → Module
module_of m = record {
  symbol = m.symbol;
  is_private = m.is_private;
  ports = ports_from no_meaning 0 m.ports;
  dictionary = kept_module_entries m.dictionary;
  body = with_output m (operations_from (meanings m) (port_meanings m.ports) 0 m.operations);
  location = location_of m.location;
}

-- the design that modules' texts say
abbrev pub design_of : List ModuleText → Design
design_of ms = map module_of ms
