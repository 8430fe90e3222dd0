-- A design: a list of modules, each with its ports and a list of operations in text order
-- (CIRCT, HW dialect: `hw.module`, graph regions; MLIR language reference: operations).
use Rattle.std.specs.Prelude.{◌≡◌, ℕ, ℤ, Bool, true, false, List, [], ◌∷◌, Option, Some, None, map, cond, nat_eq, is_some, slice_get, option_and_then, option_map}
use Rattle.std.specs.Cmp.Lexicographic.{pointwise}
use Rattle.hw_model.specs.Types.{Name, HwType}
use Rattle.hw_model.specs.Kinds.{Kind, Instance, Reset, RegisterOp}
use Rattle.hw_model.specs.Kinds.Reset.{sync_reset}
use Rattle.hw_model.specs.Kinds.RegisterOp.{compreg, compreg_ce, firreg}
use Rattle.hw_model.specs.Kinds.Kind.{instance, output, register, async_firreg}

-- a location in the source: its line and its column in bytes, both from 1
pub record Location : Type 0 where
  pub line : ℕ
  pub col : ℕ

mutual
  -- the value of an entry of a dictionary (MLIR language reference: attributes)
  pub data Attribute : Type 0 where
    unit_value : Attribute
    text_value symbol_value : Name → Attribute
    truth_value : Bool → Attribute
    integer_value : ℤ → HwType → Attribute
    list_value : Attributes → Attribute

  pub data Attributes : Type 0 where
    no_attributes : Attributes
    attribute : Attribute → Attributes → Attributes

-- an entry of a dictionary
pub record Entry : Type 0 where
  pub key : Name
  pub value : Attribute

-- an operand: a port, a result of an operation, by its position in the body, or what nothing defines
pub data Ref : Type 0 where
  port : ℕ → Ref
  result : ℕ → ℕ → Ref
  undefined : Ref

-- a port; `again` marks one whose value name was defined earlier
pub record Port : Type 0 where
  pub name : Name
  pub is_output : Bool
  pub type : HwType
  pub again : Bool

-- a result of an operation, with the same mark
pub record OpResult : Type 0 where
  pub type : HwType
  pub again : Bool

-- an operation: its kind, its operands, the types written in text order, its results, how many of them are named, its
-- own name (of a register or a wire), its dictionary, its `bin` mark, and its location
pub record Op : Type 0 where
  pub kind : Kind
  pub operands : List Ref
  pub types : List HwType
  pub results : List OpResult
  pub named : ℕ
  pub name : Name
  pub dictionary : List Entry
  pub bin : Bool
  pub location : Location

-- a module
pub record Module : Type 0 where
  pub symbol : Name
  pub is_private : Bool
  pub ports : List Port
  pub dictionary : List Entry
  pub body : List Op
  pub location : Location

abbrev pub Design : Type 0
Design = List Module

-- ---- equality without locations

abbrev pub no_location : Location
no_location = record { line = 0; col = 0 }

abbrev pub op_without_location : Op → Op
op_without_location o = record o { location = no_location }

abbrev pub module_without_locations : Module → Module
module_without_locations m = record m { body = map op_without_location m.body; location = no_location }

abbrev pub without_locations : Design → Design
without_locations d = map module_without_locations d

-- the two designs differ in nothing but locations
abbrev pub IsSameDesign : Design → Design → Type 0
IsSameDesign d e = without_locations d ≡ without_locations e

-- ---- modules by symbol, and the operations that a module's meaning looks for

-- whether two texts are the same
abbrev pub same_name : Name → Name → Bool
same_name = pointwise nat_eq

-- the first module of a symbol
abbrev pub find_module : Design → Name → Option Module
find_module [] symbol = None
find_module (m ∷ ms) symbol = cond (same_name m.symbol symbol) (Some m) (find_module ms symbol)

-- the instance that an operation is
abbrev pub instance_in : Kind → Option Instance
instance_in (instance i) = Some i
instance_in _ = None

-- whether a kind is `hw.output`
abbrev pub is_output_kind : Kind → Bool
is_output_kind output = true
is_output_kind _ = false

-- whether a register has an enable
abbrev pub takes_enable : RegisterOp → Bool
takes_enable compreg = false
takes_enable compreg_ce = true
takes_enable firreg = false

-- the form of a register: whether it has an enable, and its reset
pub record RegisterForm : Type 0 where
  pub has_enable : Bool
  pub reset : Reset

-- the form of the register that a kind is: where its clock rises one with an asynchronous reset loads as one with another
abbrev pub register_form : Kind → Option RegisterForm
register_form (register f r) = Some (record { has_enable = takes_enable f; reset = r })
register_form async_firreg = Some (record { has_enable = false; reset = sync_reset })
register_form _ = None

-- whether an operation is an instance, a register, a module's output
abbrev pub is_instance : Op → Bool
is_instance o = is_some (instance_in o.kind)

abbrev pub is_register : Op → Bool
is_register o = is_some (register_form o.kind)

abbrev pub is_output_op : Op → Bool
is_output_op o = is_output_kind o.kind

-- the type of an operation's k-th result
abbrev pub result_type : Op → ℕ → Option HwType
result_type o k = option_map (λ (r : OpResult). r.type) (slice_get o.results k)

-- the values that the module gives to its output ports, in order: the operands of its first `hw.output`
abbrev pub output_refs : List Op → List Ref
output_refs [] = []
output_refs (o ∷ os) = cond (is_output_op o) o.operands (output_refs os)

-- the module that an operation instances
abbrev pub callee : Design → Op → Option Module
callee d o = option_and_then (λ (i : Instance). find_module d i.symbol) (instance_in o.kind)
