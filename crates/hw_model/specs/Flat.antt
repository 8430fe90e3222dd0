-- The flattened module: every instance's body in the instance's location (IEEE 1364-2005, 12.1: hierarchical structures;
-- CIRCT: `hw.instance`). A net is a value of one body at the end of one path of instances; it is said where its value
-- comes from, and no flat list is built.
use Rattle.std.specs.Prelude.{ℕ, zero, suc, pred, ◌+◌, Bool, true, false, cond, List, [], ◌∷◌, ◌++◌, map, length, take, filter, Option, Some, None, slice_get, option_and_then}
use Rattle.hw_model.specs.Types.{Name, HwType, width}
use Rattle.hw_model.specs.Kinds.{Kind, Instance, Reset}
use Rattle.hw_model.specs.Kinds.Reset.{no_reset, sync_reset}
use Rattle.hw_model.specs.Kinds.Kind.{async_firreg}
use Rattle.hw_model.specs.Design.{Ref, Port, Op, Module, Design, RegisterForm, find_module, instance_in, register_form, is_instance, is_register, is_output_op, result_type, output_refs, callee}
use Rattle.hw_model.specs.Design.Ref.{port, result, undefined}

-- a path of instances, the innermost first: each is told by its number among the instances of its body
abbrev pub Path : Type 0
Path = List ℕ

-- a value of the body at the end of a path
pub record Net : Type 0 where
  pub path : Path
  pub ref : Ref

abbrev pub net : Path → Ref → Net
net p r = record { path = p; ref = r }

-- ---- ports

-- how many of the ports are inputs
abbrev pub input_count : List Port → ℕ
input_count [] = 0
input_count (p ∷ ps) = cond p.is_output (input_count ps) (suc (input_count ps))

-- how many bits the inputs among the ports have
abbrev pub input_width : List Port → ℕ
input_width [] = 0
input_width (p ∷ ps) = cond p.is_output (input_width ps) (width p.type + input_width ps)

abbrev pub operand_for : Option Port → List Ref → ℕ → Option Ref
operand_for None operands k = None
operand_for (Some p) operands k = cond p.is_output None (slice_get operands k)

-- what an instance with these operands joins to port j of its module: to an input the operand of its number
abbrev pub port_ref : List Port → List Ref → ℕ → Option Ref
port_ref ports operands j = operand_for (slice_get ports j) operands (input_count (take j ports))

-- ---- instances

-- the instances of a body, in order
abbrev pub instances : List Op → List Op
instances os = filter is_instance os

abbrev pub if_zero : {A : Type 0} → ℕ → A → A → A
if_zero zero a b = a
if_zero (suc n) a b = b

-- the operations before instance u
abbrev pub before_instance : ℕ → List Op → List Op
before_instance u [] = []
before_instance u (o ∷ os) = cond (is_instance o) (if_zero u [] (o ∷ before_instance (pred u) os)) (o ∷ before_instance u os)

-- the module at the end of a path that begins in the module of a symbol
abbrev pub module_at : Design → Name → Path → Option Module
module_at d top [] = find_module d top
module_at d top (u ∷ p) = option_and_then (λ (m : Module). option_and_then (callee d) (slice_get (instances m.body) u)) (module_at d top p)

-- ---- register content: a body in text order, each register its bits, each instance its module's content

abbrev pub width_of : Option HwType → ℕ
width_of None = 0
width_of (Some t) = width t

-- how many bits a register holds
abbrev pub held_width : Op → ℕ
held_width o = width_of (result_type o 0)

abbrev pub instance_state : (Name → ℕ) → Option Instance → ℕ
instance_state inner None = 0
instance_state inner (Some i) = inner i.symbol

-- how many bits of content an operation has, `inner` saying it of the module of a symbol
abbrev pub op_state : (Name → ℕ) → Op → ℕ
op_state inner o = cond (is_register o) (held_width o) (instance_state inner (instance_in o.kind))

abbrev pub body_state : (Name → ℕ) → List Op → ℕ
body_state inner [] = 0
body_state inner (o ∷ os) = op_state inner o + body_state inner os

abbrev pub state_of : (Name → ℕ) → Option Module → ℕ
state_of inner None = 0
state_of inner (Some m) = body_state inner m.body

-- how many bits of content the module of a symbol has, down to a depth of instances
abbrev pub module_state : ℕ → Design → Name → ℕ
module_state zero d symbol = 0
module_state (suc n) d symbol = state_of (module_state n d) (find_module d symbol)

-- a depth that no chain of instances exceeds where no module is within itself
abbrev pub depth : Design → ℕ
depth d = suc (length d)

-- the bits of content of a module
abbrev pub state : Design → Name → ℕ
state d symbol = module_state (depth d) d symbol

abbrev pub state_before : Design → ℕ → Option Module → ℕ
state_before d u None = 0
state_before d u (Some m) = body_state (state d) (before_instance u m.body)

-- where the content of the module at the end of a path begins
abbrev pub base : Design → Name → Path → ℕ
base d top [] = 0
base d top (u ∷ p) = base d top p + state_before d u (module_at d top p)

-- where the content of the operation at position i of that module begins
abbrev pub offset : Design → Name → Path → Module → ℕ → ℕ
offset d top p m i = base d top p + body_state (state d) (take i m.body)

-- ---- where a net's value comes from

pub data Source : Type 0 where
  -- nothing drives it
  nowhere : Source
  -- the inputs: from an offset on, so many bits
  input : ℕ → ℕ → Source
  -- the register content: from an offset on, so many bits
  held : ℕ → ℕ → Source
  -- another net
  copy : Net → Source
  -- an operation: its kind, the types that it writes, the result's type and number, its operands
  op_result : Kind → List HwType → HwType → ℕ → List Net → Source

abbrev pub input_of : Option Port → ℕ → Source
input_of None start = nowhere
input_of (Some p) start = cond p.is_output nowhere (input start (width p.type))

-- port j of the top module: its bits of the inputs; nothing outside drives an output port
abbrev pub input_source : ℕ → Option Module → Source
input_source j None = nowhere
input_source j (Some m) = input_of (slice_get m.ports j) (input_width (take j m.ports))

abbrev pub copy_of : Path → Option Ref → Source
copy_of p None = nowhere
copy_of p (Some r) = copy (net p r)

-- what the instance o joins to port j of its module
abbrev pub joined_ref : Design → ℕ → Op → Option Ref
joined_ref d j o = option_and_then (λ (c : Module). port_ref c.ports o.operands j) (callee d o)

-- what instance u of a body joins to port j of its module
abbrev pub joined_at : Design → ℕ → ℕ → Module → Option Ref
joined_at d u j m = option_and_then (joined_ref d j) (slice_get (instances m.body) u)

-- port j of the module at the end of a path
abbrev pub port_source : Design → Name → Path → ℕ → Source
port_source d top [] j = input_source j (find_module d top)
port_source d top (u ∷ p) j = copy_of p (option_and_then (joined_at d u j) (module_at d top p))

-- what the module that o instances gives to its k-th output
abbrev pub given_ref : Design → ℕ → Op → Option Ref
given_ref d k o = option_and_then (λ (c : Module). slice_get (output_refs c.body) k) (callee d o)

abbrev pub held_of : ℕ → Option HwType → Source
held_of start None = nowhere
held_of start (Some t) = held start (width t)

abbrev pub made_of : Path → Op → ℕ → Option HwType → Source
made_of p o k None = nowhere
made_of p o k (Some t) = op_result o.kind o.types t k (map (net p) o.operands)

-- result k of the operation o at position i of the module m at the end of a path
abbrev pub op_source : Design → Name → Path → Module → ℕ → ℕ → Op → Source
op_source d top p m i k o =
    cond (is_register o) (held_of (offset d top p m i) (result_type o k))
    (cond (is_instance o) (copy_of (length (instances (take i m.body)) ∷ p) (given_ref d k o))
    (cond (is_output_op o) nowhere (made_of p o k (result_type o k))))

abbrev pub result_source_of : Design → Name → Path → Module → ℕ → ℕ → Option Op → Source
result_source_of d top p m i k None = nowhere
result_source_of d top p m i k (Some o) = op_source d top p m i k o

abbrev pub result_source : Design → Name → Path → ℕ → ℕ → Option Module → Source
result_source d top p i k None = nowhere
result_source d top p i k (Some m) = result_source_of d top p m i k (slice_get m.body i)

-- where the value of each net of the module `top` comes from
abbrev pub source_at : Design → Name → Path → Ref → Source
source_at d top p (port j) = port_source d top p j
source_at d top p (result i k) = result_source d top p i k (module_at d top p)
source_at d top p undefined = nowhere

abbrev pub source : Design → Name → Net → Source
source d top n = source_at d top n.path n.ref

-- ---- registers

-- what resets a register, and to what
pub record ResetBy : Type 0 where
  pub signal : Ref
  pub value : Ref

-- a register's operands
pub record Register : Type 0 where
  pub next : Ref
  pub clock : Ref
  pub enable : Option Ref
  pub reset : Option ResetBy

abbrev pub register_parts : Bool → Reset → List Ref → Option Register
register_parts false no_reset (d ∷ c ∷ []) = Some (record { next = d; clock = c; enable = None; reset = None })
register_parts true no_reset (d ∷ c ∷ e ∷ []) = Some (record { next = d; clock = c; enable = Some e; reset = None })
register_parts false sync_reset (d ∷ c ∷ r ∷ v ∷ []) = Some (record { next = d; clock = c; enable = None; reset = Some (record { signal = r; value = v }) })
register_parts true sync_reset (d ∷ c ∷ e ∷ r ∷ v ∷ []) = Some (record { next = d; clock = c; enable = Some e; reset = Some (record { signal = r; value = v }) })
register_parts _ _ _ = None

-- the register that an operation is
abbrev pub register_in : Op → Option Register
register_in o = option_and_then (λ (f : RegisterForm). register_parts f.has_enable f.reset o.operands) (register_form o.kind)

-- whether a kind is a register with an asynchronous reset (CIRCT, Seq dialect: `seq.firreg` with `reset async`)
abbrev pub has_async_reset : Kind → Bool
has_async_reset async_firreg = true
has_async_reset _ = false

-- its reset and the value of that, from its operands: data, clock, reset, value
abbrev pub async_parts : List Ref → Option ResetBy
async_parts (d ∷ c ∷ r ∷ v ∷ []) = Some (record { signal = r; value = v })
async_parts _ = None

-- what resets the register that an operation is without its clock, and to what
abbrev pub async_reset_in : Op → Option ResetBy
async_reset_in o = cond (has_async_reset o.kind) (async_parts o.operands) None

-- a register of the flattened module
pub record Slot : Type 0 where
  pub path : Path
  pub op : Op

abbrev pub instance_registers : (Path → Name → List Slot) → Path → ℕ → Option Instance → List Slot
instance_registers inner p u None = []
instance_registers inner p u (Some i) = inner (u ∷ p) i.symbol

-- the registers of an operation, u instances being before it, `inner` giving those of the module of a symbol
abbrev pub op_registers : (Path → Name → List Slot) → Path → ℕ → Op → List Slot
op_registers inner p u o = cond (is_register o) (record { path = p; op = o } ∷ []) (instance_registers inner p u (instance_in o.kind))

abbrev pub body_registers : (Path → Name → List Slot) → Path → ℕ → List Op → List Slot
body_registers inner p u [] = []
body_registers inner p u (o ∷ os) = op_registers inner p u o ++ body_registers inner p (cond (is_instance o) (suc u) u) os

abbrev pub registers_of : (Path → Name → List Slot) → Path → Option Module → List Slot
registers_of inner p None = []
registers_of inner p (Some m) = body_registers inner p 0 m.body

-- the registers of the module of a symbol at the end of a path, in the order of its content
abbrev pub module_registers : ℕ → Design → Path → Name → List Slot
module_registers zero d p symbol = []
module_registers (suc n) d p symbol = registers_of (module_registers n d) p (find_module d symbol)

abbrev pub registers : Design → Name → List Slot
registers d top = module_registers (depth d) d [] top
