-- That a design is in canonical form has one proof at most.
use Rattle.std.proofs.Common.{◌≡◌, ℕ, zero, suc, Bool, true, List, [], ◌∷◌, ap, sym, ◌∙◌, length}
use Rattle.std.specs.Prelude.{ℤ, pos, negsuc, ◌<◌, false, Option, Some, None}
use Rattle.std.proofs.Props.{props}
use mathlib.Core.HLevel.{collapsible→set}
use Rattle.opcode.specs.declared.listed.Listed.{Listed}
use Rattle.opcode.specs.declared.listed.Listed.TheVariants as listed
use Rattle.hw_model.specs.Types.{Name, HwType, FieldTypes}
use Rattle.hw_model.specs.Types.HwType.{int, clock, array, struct}
use Rattle.hw_model.specs.Types.FieldTypes.{no_fields, field}
use Rattle.hw_model.specs.Equality.{TellsApart}
use Rattle.hw_model.specs.SameType.{same_type, types_apart}
use Rattle.hw_model.specs.SameKind.{same_literals}
use Rattle.hw_model.specs.KindsApart.{literalss_apart}
use Rattle.hw_model.specs.Kinds.{Kind, Instance, Literal, Literals}
use Rattle.hw_model.specs.Kinds.Literal.{leaf, parts}
use Rattle.hw_model.specs.Kinds.Literals.{no_literals, literal}
use Rattle.hw_model.specs.Kinds.StructOp.{struct_extract, struct_inject}
use Rattle.hw_model.specs.Kinds.Kind.{extract, constant, aggregate_constant, on_struct, instance}
use Rattle.hw_model.specs.Design.{Attribute, Attributes, Entry, OpResult, Port, Op, Module, Design}
use Rattle.hw_model.specs.Design.Attribute.{unit_value, text_value, symbol_value, truth_value, integer_value, list_value}
use Rattle.hw_model.specs.Design.Attributes.{no_attributes, attribute}
use Rattle.stored_form.specs.Bytes.{Each, AreBytes, MayBeBytes}
use Rattle.stored_form.specs.Limits.{IsInteger, IsType, AreFields, IsAnyType, IsLiteral, AreLiterals, IsAttribute, AreAttributes, IsValue, IsEntry}
use Rattle.hw_model.specs.Opcodes.{opcode_of}
use Rattle.type_inference.specs.ResultTypes.{result_types}
use Rattle.stored_form.specs.Dictionaries.{is_dropped, string_keys, module_keys, AreInOrder, IsKeptDictionary}
use Rattle.stored_form.specs.Kinds.{KeepsConstants, IsWrittenInstance, IsWritten}
use Rattle.stored_form.specs.ResultTypes.{HaveTypes}
use Rattle.stored_form.specs.Canonical.{IsCanonicalOp, IsCanonicalPort, IsCanonicalModule, IsCanonical}

-- ---- sets

-- what a test tells apart is a set
apart_set : {A : Type 0} (same : A → A → Bool) → TellsApart same → IsSet A
apart_set {A} same apart =
    let truth : (x y : A) → IsProp (same x y ≡ true) = λ x y. hlevel props in
    let told : (x y : A) → x ≡ y → same x y ≡ true = λ x y p. ap (same x) (sym p) ∙ apart.self x in
    collapsible→set (λ x y p. apart.from x y (told x y p)) (λ x y p q. ap (apart.from x y) (truth x y (told x y p) (told x y q)))

type_set : IsSet HwType
type_set = apart_set same_type types_apart

literals_set : IsSet Literals
literals_set = apart_set same_literals literalss_apart

-- ---- lists and bytes

each_prop : {A : Type 0} (P : A → Type 0) → ((x : A) → IsProp (P x)) → (xs : List A) → IsProp (Each P xs)
each_prop P one [] = hlevel
each_prop P one (x ∷ xs) = hlevel (one x, each_prop P one xs)

bytes_prop : (bytes : List ℕ) → IsProp (AreBytes bytes)
bytes_prop bytes = each_prop (λ b. b < 256) (λ b. hlevel props) bytes

may_be_bytes_prop : (name : Option Name) → IsProp (MayBeBytes name)
may_be_bytes_prop None = hlevel
may_be_bytes_prop (Some name) = bytes_prop name

-- ---- limits

integer_prop : (z : ℤ) → IsProp (IsInteger z)
integer_prop (pos n) = hlevel props
integer_prop (negsuc n) = hlevel props

mutual
  type_prop : (t : HwType) (room : ℕ) → IsProp (IsType t room)
  type_prop (int w) room = hlevel props
  type_prop clock room = hlevel
  type_prop (array n t) zero = hlevel props
  type_prop (array n t) (suc room) = hlevel (props, type_prop t room)
  type_prop (struct fs) zero = hlevel
  type_prop (struct fs) (suc room) = fields_prop fs room

  fields_prop : (fs : FieldTypes) (room : ℕ) → IsProp (AreFields fs room)
  fields_prop no_fields room = hlevel
  fields_prop (field name t fs) room = hlevel (bytes_prop name, type_prop t room, fields_prop fs room)

any_type_prop : (t : HwType) → IsProp (IsAnyType t)
any_type_prop t = type_prop t 32

mutual
  literal_prop : (l : Literal) (room : ℕ) → IsProp (IsLiteral l room)
  literal_prop (leaf z t) room = hlevel (integer_prop z, type_prop t room)
  literal_prop (parts ls) zero = hlevel
  literal_prop (parts ls) (suc room) = literals_prop ls room

  literals_prop : (ls : Literals) (room : ℕ) → IsProp (AreLiterals ls room)
  literals_prop no_literals room = hlevel
  literals_prop (literal l ls) room = hlevel (literal_prop l room, literals_prop ls room)

mutual
  attribute_prop : (a : Attribute) (room : ℕ) → IsProp (IsAttribute a room)
  attribute_prop unit_value room = hlevel
  attribute_prop (text_value text) room = bytes_prop text
  attribute_prop (symbol_value name) room = bytes_prop name
  attribute_prop (truth_value b) room = hlevel
  attribute_prop (integer_value z t) room = hlevel (props, type_prop t room)
  attribute_prop (list_value inner) zero = hlevel
  attribute_prop (list_value inner) (suc room) = attributes_prop inner room

  attributes_prop : (l : Attributes) (room : ℕ) → IsProp (AreAttributes l room)
  attributes_prop no_attributes room = hlevel
  attributes_prop (attribute a rest) room = hlevel (attribute_prop a room, attributes_prop rest room)

value_prop : (of_string : Bool) (a : Attribute) → IsProp (IsValue of_string a)
value_prop of_string unit_value = hlevel props
value_prop of_string (text_value text) = bytes_prop text
value_prop of_string (symbol_value name) = hlevel (props, attribute_prop (symbol_value name) 32)
value_prop of_string (truth_value b) = hlevel (props, attribute_prop (truth_value b) 32)
value_prop of_string (integer_value z t) = hlevel (props, attribute_prop (integer_value z t) 32)
value_prop of_string (list_value inner) = hlevel (props, attribute_prop (list_value inner) 32)

entry_prop : (strings : List Name) (e : Entry) → IsProp (IsEntry strings e)
entry_prop strings e = hlevel (bytes_prop, value_prop)

-- ---- dictionaries

in_order_prop : (es : List Entry) → IsProp (AreInOrder es)
in_order_prop [] = hlevel
in_order_prop (e ∷ []) = hlevel
in_order_prop (e ∷ f ∷ es) = hlevel (props, in_order_prop (f ∷ es))

dictionary_prop : (o : Listed) (strings : List Name) (es : List Entry) → IsProp (IsKeptDictionary o strings es)
dictionary_prop o strings es = hlevel (in_order_prop es, each_prop (λ (e : Entry). is_dropped o e ≡ false) (λ e. hlevel props) es, each_prop (IsEntry strings) (entry_prop strings) es)

-- ---- operations

results_prop : (rs : List OpResult) (ts : List (Option HwType)) → IsProp (HaveTypes rs ts)
results_prop [] [] = hlevel
results_prop (r ∷ rs) [] = hlevel (type_set, results_prop rs [])
results_prop [] (t ∷ ts) = hlevel
results_prop (r ∷ rs) (t ∷ ts) = hlevel (type_set, results_prop rs ts)

constants_prop : (k : Kind) (ts : List HwType) → IsProp (KeepsConstants k ts)
constants_prop (constant z) ts = hlevel props
constants_prop (aggregate_constant ls) ts = hlevel literals_set
constants_prop _ ts = hlevel

instance_prop : (i : Instance) → IsProp (IsWrittenInstance i)
instance_prop i = hlevel (bytes_prop i.name, may_be_bytes_prop i.inner_symbol, bytes_prop i.symbol, each_prop AreBytes bytes_prop i.inputs, each_prop AreBytes bytes_prop i.outputs)

written_prop : (k : Kind) → IsProp (IsWritten k)
written_prop (extract low) = hlevel props
written_prop (constant z) = integer_prop z
written_prop (aggregate_constant ls) = literals_prop ls 31
written_prop (on_struct (struct_extract name)) = bytes_prop name
written_prop (on_struct (struct_inject name)) = bytes_prop name
written_prop (instance i) = instance_prop i
written_prop _ = hlevel

op_prop : (o : Op) → IsProp (IsCanonicalOp o)
op_prop o =
    hlevel (
      props,
      results_prop o.results (result_types o.kind o.types (length o.operands)),
      each_prop IsAnyType any_type_prop o.types,
      constants_prop o.kind o.types,
      written_prop o.kind,
      bytes_prop o.name,
      dictionary_prop (opcode_of o.kind) (string_keys (opcode_of o.kind)) o.dictionary,
    )

-- ---- modules

port_prop : (p : Port) → IsProp (IsCanonicalPort p)
port_prop p = hlevel (bytes_prop p.name, any_type_prop p.type)

module_prop : (m : Module) → IsProp (IsCanonicalModule m)
module_prop m =
    hlevel (
      props,
      bytes_prop m.symbol,
      each_prop IsCanonicalPort port_prop m.ports,
      dictionary_prop listed.HwModule module_keys m.dictionary,
      each_prop IsCanonicalOp op_prop m.body,
    )

pub canonical_prop : (d : Design) → IsProp (IsCanonical d)
canonical_prop d = each_prop IsCanonicalModule module_prop d
