-- An instance becomes the body of its module (CIRCT, HW dialect: `hw-flatten-modules`). For each result of the instance a
-- wire stands in its place (CIRCT, HW dialect: `hw.wire`), and then the operations of the module but its `hw.output`.
use Rattle.std.specs.Prelude.{◌≡◌, ℕ, zero, suc, ◌+◌, true, false, cond, List, [], ◌∷◌, ◌++◌, map, take, drop, length, Option, Some, None, slice_get, option_map}
use Rattle.hw_model.specs.Types.{HwType}
use Rattle.hw_model.specs.Kinds.{Kind, Instance}
use Rattle.hw_model.specs.Kinds.Kind.{wire, instance}
use Rattle.hw_model.specs.Design.{Ref, OpResult, Op, Location, Module, Design, find_module, instance_in, is_output_op, result_type, output_refs}
use Rattle.hw_model.specs.Design.Ref.{port, result, undefined}
use Rattle.hw_model.specs.Flat.{port_ref}
use Rattle.edit_laws.specs.Edit.{retarget}

-- ---- positions of joined lists

-- a position of two joined lists is one of the first or one of the second
pub data Side : Type 0 where
  in_first : ℕ → Side
  in_second : ℕ → Side

-- the same with one more item before
abbrev pub next_side : Side → Side
next_side (in_first j) = in_first (suc j)
next_side (in_second j) = in_second j

-- which of them position j is where the first list has n items
abbrev pub side : ℕ → ℕ → Side
side zero j = in_second j
side (suc n) zero = in_first zero
side (suc n) (suc j) = next_side (side n j)

-- ---- bodies

-- the operations of a body before its first output
abbrev pub before_output : List Op → List Op
before_output [] = []
before_output (o ∷ os) = cond (is_output_op o) [] (o ∷ before_output os)

-- a body ends with its one output (CIRCT, HW dialect: `hw.output` ends a module)
abbrev pub EndsWithOutput : List Op → Type 0
EndsWithOutput [] = ⊥
EndsWithOutput (o ∷ []) = is_output_op o ≡ true
EndsWithOutput (o ∷ y ∷ os) = (is_output_op o ≡ false) × EndsWithOutput (y ∷ os)

-- ---- values

-- the value, where there is one
abbrev pub ref_or_undefined : Option Ref → Ref
ref_or_undefined None = undefined
ref_or_undefined (Some r) = r

-- how many wires there are, and how many operations of the module: `o` is the instance and `c` its module
abbrev pub wire_count : Op → ℕ
wire_count o = length o.results

abbrev pub moved_count : Module → ℕ
moved_count c = length (before_output c.body)

-- result k of the instance at position i, once it is inlined: the result of its wire, where it has a type
abbrev pub wire_result : ℕ → ℕ → Option HwType → Ref
wire_result i k None = undefined
wire_result i k (Some t) = result (i + k) 0

-- result k of an operation of the body, which stands before the instance, is it, or stands after it
abbrev pub outer_result : ℕ → Op → Module → ℕ → Side → Ref
outer_result i o c k (in_first j) = result j k
outer_result i o c k (in_second zero) = wire_result i k (result_type o k)
outer_result i o c k (in_second (suc j)) = result (i + (wire_count o + (moved_count c + j))) k

-- a value of the body once the instance o at position i is inlined
abbrev pub outer_ref : ℕ → Op → Module → Ref → Ref
outer_ref i o c (port j) = port j
outer_ref i o c (result j k) = outer_result i o c k (side i j)
outer_ref i o c undefined = undefined

-- result k of an operation of the module, which stands before its output or not
abbrev pub inner_result : ℕ → Op → ℕ → Side → Ref
inner_result i o k (in_first j) = result (i + (wire_count o + j)) k
inner_result i o k (in_second j) = undefined

-- a value of the module in the place of its instance o at position i; an input port is the instance's operand of that number
abbrev pub inner_ref : ℕ → Op → Module → Ref → Ref
inner_ref i o c (port j) = ref_or_undefined (option_map (outer_ref i o c) (port_ref c.ports o.operands j))
inner_ref i o c (result j k) = inner_result i o k (side (moved_count c) j)
inner_ref i o c undefined = undefined

-- ---- operations

-- a wire without a name
abbrev pub wire_op : Location → HwType → Ref → Op
wire_op at t r = record {
  kind = wire;
  operands = r ∷ [];
  types = t ∷ [];
  results = record { type = t; again = false } ∷ [];
  named = 1;
  name = [];
  dictionary = [];
  bin = false;
  location = at;
}

-- a wire for each of the results, from the value that `move` makes of the module's output of its number
abbrev pub wire_ops : Location → (Ref → Ref) → List OpResult → List Ref → List Op
wire_ops at move [] rs = []
wire_ops at move (x ∷ xs) [] = wire_op at x.type undefined ∷ wire_ops at move xs []
wire_ops at move (x ∷ xs) (r ∷ rs) = wire_op at x.type (move r) ∷ wire_ops at move xs rs

-- a kind without the name that it gives to an instance
abbrev pub unnamed_kind : Kind → Kind
unnamed_kind (instance i) = instance (record i { name = [] })
unnamed_kind kind = kind

-- the function of operations keeps the kind but for an instance's name, the operands, the types and the results
pub record RenamesOnly (rename : Op → Op) : Type 0 where
  pub kind_is : (o : Op) → unnamed_kind (rename o).kind ≡ unnamed_kind o.kind
  pub operands_are : (o : Op) → (rename o).operands ≡ o.operands
  pub types_are : (o : Op) → (rename o).types ≡ o.types
  pub results_are : (o : Op) → (rename o).results ≡ o.results

-- the wires that stand for the instance o at position i, and the operations of its module c, each renamed
abbrev pub inlined_wires : ℕ → Op → Module → List Op
inlined_wires i o c = wire_ops o.location (inner_ref i o c) o.results (output_refs c.body)

abbrev pub inlined_ops : (Op → Op) → ℕ → Op → Module → List Op
inlined_ops rename i o c = map (λ (y : Op). rename (retarget (inner_ref i o c) y)) (before_output c.body)

-- a body in which they stand between two parts
abbrev pub inlined_between : (Op → Op) → ℕ → Op → Module → List Op → List Op → List Op
inlined_between rename i o c prefix back =
    map (retarget (outer_ref i o c)) prefix ++ (inlined_wires i o c ++ (inlined_ops rename i o c ++ map (retarget (outer_ref i o c)) back))

-- the body in which they stand in the place of the instance o at position i
abbrev pub inline_op : (Op → Op) → ℕ → Op → Module → List Op → List Op
inline_op rename i o c os = inlined_between rename i o c (take i os) (drop (suc i) os)

-- the operation o at position i of the module is an instance of the module c, which ends with its one output
pub record IsInlined (d : Design) (md : Module) (i : ℕ) (o : Op) (c : Module) : Type 0 where
  pub there : slice_get md.body i ≡ Some o
  pub target : Instance
  pub is_instance : instance_in o.kind ≡ Some target
  pub is_found : find_module d target.symbol ≡ Some c
  pub ends : EndsWithOutput c.body
