-- A sound design: the types of each operation's operands and results fit (CIRCT: HW, Comb and Seq dialects: the types
-- that each operation asks for).
use Rattle.std.specs.Prelude.{◌≡◌, ℕ, ◌+◌, ◌*◌, ◌<◌, ◌≤◌, Bool, true, false, cond, List, [], ◌∷◌, map, length, Option, Some, None, slice_get, option_and_then}
use Rattle.wiring.specs.Lists.{total}
use Rattle.wiring.specs.Wiring.{In}
use Rattle.bits_core.specs.Word.{Word}
use Rattle.hw_model.specs.Types.{Name, HwType, FieldTypes, width}
use Rattle.hw_model.specs.Types.HwType.{int, clock, array, struct}
use Rattle.hw_model.specs.Types.FieldTypes.{no_fields, field}
use Rattle.hw_model.specs.Kinds.{Kind, Instance, Reset, Literal, Literals, ArrayOp, StructOp}
use Rattle.hw_model.specs.Kinds.Reset.{no_reset, sync_reset}
use Rattle.hw_model.specs.Kinds.Literal.{leaf, parts}
use Rattle.hw_model.specs.Kinds.Literals.{no_literals, literal}
use Rattle.hw_model.specs.Kinds.ArrayOp.{array_create, array_concat, array_get, array_slice, array_inject}
use Rattle.hw_model.specs.Kinds.StructOp.{struct_create, struct_extract, struct_inject, struct_explode}
use Rattle.hw_model.specs.Kinds.Kind.{variadic, sub, division, shift, icmp, parity, extract, concat, replicate, mux, constant, aggregate_constant, on_array, on_struct, bitcast, wire, instance, output, register, async_firreg}
use Rattle.hw_model.specs.Design.{Ref, Port, OpResult, Op, Module, Design, same_name, find_module, instance_in, takes_enable, result_type, output_refs}
use Rattle.hw_model.specs.Design.Ref.{port, result, undefined}
use Rattle.hw_model.specs.Value.{nth_type}

-- ---- bodies

-- the body of a module, and its ports; a module that is not there is as one without operations and ports
abbrev pub body_of : Option Module → List Op
body_of None = []
body_of (Some m) = m.body

abbrev pub ports_of : Option Module → List Port
ports_of None = []
ports_of (Some m) = m.ports

-- the types of a module's inputs, and of its outputs
abbrev pub input_types : List Port → List HwType
input_types [] = []
input_types (q ∷ qs) = cond q.is_output (input_types qs) (q.type ∷ input_types qs)

abbrev pub output_types : List Port → List HwType
output_types [] = []
output_types (q ∷ qs) = cond q.is_output (q.type ∷ output_types qs) (output_types qs)

-- the type of a value of a body; none where there is no value
abbrev pub input_type : Option Port → Option HwType
input_type None = None
input_type (Some q) = cond q.is_output None (Some q.type)

abbrev pub type_in : List Port → List Op → Ref → Option HwType
type_in ports os (port j) = input_type (slice_get ports j)
type_in ports os (result j k) = option_and_then (λ (o : Op). result_type o k) (slice_get os j)
type_in ports os undefined = None

-- the word has as many bits as its type; nothing is asked where there is no type
abbrev pub HasWidth : Option HwType → Word → Type 0
HasWidth None w = Unit {0}
HasWidth (Some t) w = length w ≡ width t

-- the words have the widths of their types
abbrev pub HaveWidths : List (Option HwType) → List Word → Type 0
HaveWidths [] [] = Unit {0}
HaveWidths [] (w ∷ ws) = ⊥
HaveWidths (x ∷ xs) [] = ⊥
HaveWidths (x ∷ xs) (w ∷ ws) = HasWidth x w × HaveWidths xs ws

-- ---- aggregates

-- the types of a struct's fields, in order
abbrev pub field_list : FieldTypes → List HwType
field_list no_fields = []
field_list (field name t fs) = t ∷ field_list fs

-- the type of the field of a name
abbrev pub field_type : FieldTypes → Name → Option HwType
field_type no_fields name = None
field_type (field f t fs) name = cond (same_name f name) (Some t) (field_type fs name)

-- how many bits a constant of an aggregate type has
abbrev mutual
  pub literal_width : Literal → ℕ
  literal_width (leaf z t) = width t
  literal_width (parts ls) = literals_width ls

  pub literals_width : Literals → ℕ
  literals_width no_literals = 0
  literals_width (literal l ls) = literal_width l + literals_width ls

-- ---- operations

-- each operand has the type t
abbrev pub AllAre : HwType → List (Option HwType) → Type 0
AllAre t xs = (x : Option HwType) → In x xs → x ≡ Some t

-- the types of the operands of a register of type t: its data, its clock, its enable, its reset and reset value
abbrev pub reset_types : Reset → HwType → List (Option HwType)
reset_types no_reset t = []
reset_types sync_reset t = Some (int 1) ∷ Some t ∷ []

abbrev pub register_types : Bool → Reset → HwType → List (Option HwType)
register_types false r t = Some t ∷ Some clock ∷ reset_types r t
register_types true r t = Some t ∷ Some clock ∷ Some (int 1) ∷ reset_types r t

-- an operation on arrays that writes the types `ts`, with operands of the types `xs`, may have a result of type t
abbrev pub ArrayFits : ArrayOp → List HwType → List (Option HwType) → HwType → Type 0
ArrayFits array_create ts xs t = (e : HwType) × (t ≡ array (length xs) e) × AllAre e xs
ArrayFits array_concat ts xs t = (e : HwType) × (ns : List ℕ) × (xs ≡ map (λ (n : ℕ). Some (array n e)) ns) × (t ≡ array (total ns) e)
ArrayFits array_get ts xs t = (n : ℕ) × (u : HwType) × (xs ≡ Some (array n t) ∷ Some u ∷ []) × (nth_type ts 0 ≡ array n t)
ArrayFits array_slice ts xs t = (n : ℕ) × (m : ℕ) × (e : HwType) × (u : HwType) × (xs ≡ Some (array n e) ∷ Some u ∷ []) × (nth_type ts 0 ≡ array n e) × (t ≡ array m e)
ArrayFits array_inject ts xs t = (n : ℕ) × (e : HwType) × (u : HwType) × (xs ≡ Some t ∷ Some u ∷ Some e ∷ []) × (nth_type ts 0 ≡ t) × (t ≡ array n e)

-- an operation on structs, its k-th result
abbrev pub StructFits : StructOp → List HwType → List (Option HwType) → HwType → ℕ → Type 0
StructFits struct_create ts xs t k = (fs : FieldTypes) × (t ≡ struct fs) × (xs ≡ map (λ (u : HwType). Some u) (field_list fs))
StructFits (struct_extract name) ts xs t k = (fs : FieldTypes) × (xs ≡ Some (struct fs) ∷ []) × (nth_type ts 0 ≡ struct fs) × (field_type fs name ≡ Some t)
StructFits (struct_inject name) ts xs t k = (fs : FieldTypes) × (e : HwType) × (xs ≡ Some t ∷ Some e ∷ []) × (nth_type ts 0 ≡ t) × (t ≡ struct fs) × (field_type fs name ≡ Some e)
StructFits struct_explode ts xs t k = (fs : FieldTypes) × (xs ≡ Some (struct fs) ∷ []) × (nth_type ts 0 ≡ struct fs) × (slice_get (field_list fs) k ≡ Some t)

-- an operation that writes the types `ts`, with operands of the types `xs`, may have a k-th result of type t
abbrev pub Fits : Kind → List HwType → List (Option HwType) → HwType → ℕ → Type 0
Fits (variadic v) ts xs t k = AllAre t xs
Fits sub ts xs t k = xs ≡ Some t ∷ Some t ∷ []
Fits (division d) ts xs t k = xs ≡ Some t ∷ Some t ∷ []
Fits (shift s) ts xs t k = xs ≡ Some t ∷ Some t ∷ []
Fits (icmp p) ts xs t k = (u : HwType) × (xs ≡ Some u ∷ Some u ∷ []) × (t ≡ int 1)
Fits parity ts xs t k = (u : HwType) × (xs ≡ Some u ∷ []) × (t ≡ int 1)
Fits (extract low) ts xs t k = (u : HwType) × (xs ≡ Some u ∷ []) × (low + width t ≤ width u)
Fits concat ts xs t k = (us : List HwType) × (xs ≡ map (λ (u : HwType). Some u) us) × (width t ≡ total (map width us))
Fits replicate ts xs t k = (u : HwType) × (n : ℕ) × (xs ≡ Some u ∷ []) × (0 < width u) × (width t ≡ n * width u)
Fits mux ts xs t k = xs ≡ Some (int 1) ∷ Some t ∷ Some t ∷ []
Fits (constant z) ts xs t k = xs ≡ []
Fits (aggregate_constant ls) ts xs t k = (xs ≡ []) × (literals_width ls ≡ width t)
Fits (on_array a) ts xs t k = ArrayFits a ts xs t
Fits (on_struct s) ts xs t k = StructFits s ts xs t k
Fits bitcast ts xs t k = (u : HwType) × (xs ≡ Some u ∷ []) × (width u ≡ width t)
Fits wire ts xs t k = xs ≡ Some t ∷ []
Fits (instance i) ts xs t k = Unit {0}
Fits output ts xs t k = ⊥
Fits (register f r) ts xs t k = xs ≡ register_types (takes_enable f) r t
Fits async_firreg ts xs t k = xs ≡ register_types false sync_reset t

-- each result of the operation fits its operands; an output has no result
abbrev pub OpFits : (Ref → Option HwType) → Op → Type 0
OpFits type_of o = (k : ℕ) (t : HwType) → result_type o k ≡ Some t → Fits o.kind o.types (map type_of o.operands) t k

-- an instance's module is there, its operands have the types of that module's inputs, its results those of its outputs
abbrev pub InstanceFits : Design → (Ref → Option HwType) → Op → Type 0
InstanceFits d type_of o = (i : Instance) → instance_in o.kind ≡ Some i →
    (c : Module) × (find_module d i.symbol ≡ Some c) × (map type_of o.operands ≡ map (λ (t : HwType). Some t) (input_types c.ports))
    × (map (λ (r : OpResult). r.type) o.results ≡ output_types c.ports)

-- a body whose operations fit, and which gives its outputs values of their types
pub record SoundBody (d : Design) (ports : List Port) (os : List Op) : Type 0 where
  pub ops : (j : ℕ) (o : Op) → slice_get os j ≡ Some o → OpFits (type_in ports os) o
  pub instances : (j : ℕ) (o : Op) → slice_get os j ≡ Some o → InstanceFits d (type_in ports os) o
  pub outputs : map (type_in ports os) (output_refs os) ≡ map (λ (t : HwType). Some t) (output_types ports)

-- each module of the design is sound
abbrev pub Sound : Design → Type 0
Sound d = (s : Name) (m : Module) → find_module d s ≡ Some m → SoundBody d m.ports m.body
