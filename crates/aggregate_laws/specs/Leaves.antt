-- Aggregates by their leaves: ports, values in a row, registers, instances and outputs of a design in which each aggregate
-- value is its leaves (CIRCT, HW dialect: `hw-lower-aggregates`). What has a name there may have any.
use Rattle.std.specs.Prelude.{ℕ, zero, suc, Bool, true, false, cond, List, [], ◌∷◌, ◌++◌, map, take, length, Option, Some, None, slice_get}
use Rattle.std.specs.List.{flat_map}
use Rattle.hw_model.specs.Types.{HwType, leaves}
use Rattle.hw_model.specs.Kinds.{Kind, Reset}
use Rattle.hw_model.specs.Kinds.Reset.{no_reset, sync_reset}
use Rattle.hw_model.specs.Kinds.Kind.{instance}
use Rattle.hw_model.specs.Design.{Ref, Port, OpResult, Op, RegisterForm, no_location, register_form, result_type}
use Rattle.hw_model.specs.Design.Ref.{port, undefined}

-- ---- values in a row

-- what f gives of n numbers, from `start` on
abbrev pub in_row : {A : Type 0} → (ℕ → A) → ℕ → ℕ → List A
in_row f start zero = []
in_row f start (suc n) = f start ∷ in_row f (suc start) n

-- the value, where there is one
abbrev pub or_undefined : Option Ref → Ref
or_undefined None = undefined
or_undefined (Some r) = r

-- the i-th of the values
abbrev pub part : List Ref → ℕ → Ref
part rs i = or_undefined (slice_get rs i)

-- ---- ports

-- a port without its names
abbrev pub bare_port : Port → Port
bare_port q = record { name = []; is_output = q.is_output; type = q.type; again = false }

-- a port of a way and a type, without a name
abbrev pub leaf_port : Bool → HwType → Port
leaf_port way t = record { name = []; is_output = way; type = t; again = false }

-- the leaves of a port
abbrev pub leaf_ports : Port → List Port
leaf_ports q = map (leaf_port q.is_output) (leaves q.type)

-- where the leaves of port j begin
abbrev pub leaf_start : List Port → ℕ → ℕ
leaf_start ps j = length (flat_map leaf_ports (take j ps))

-- what stands for an input port, its leaves beginning at a number
abbrev pub parts_of_port : ℕ → Option Port → List Ref
parts_of_port start None = []
parts_of_port start (Some q) = cond q.is_output [] (in_row port start (length (leaves q.type)))

-- ---- operations

-- a kind without the names that it gives
abbrev pub bare_kind : Kind → Kind
bare_kind (instance i) = instance (record { name = []; inner_symbol = None; symbol = i.symbol; inputs = []; outputs = [] })
bare_kind kind = kind

abbrev pub bare_result : HwType → OpResult
bare_result t = record { type = t; again = false }

-- an operation of a kind with operands and results of types, and nothing else
abbrev pub bare : Kind → List Ref → List HwType → Op
bare kind rs ts = record {
  kind = kind;
  operands = rs;
  types = [];
  results = map bare_result ts;
  named = 0;
  name = [];
  dictionary = [];
  bin = false;
  location = no_location;
}

-- the types of an operation's results
abbrev pub result_types : Op → List HwType
result_types o = map (λ (x : OpResult). x.type) o.results

-- what of an operation decides what a register, an instance or an output does
abbrev pub bare_op : Op → Op
bare_op o = bare (bare_kind o.kind) o.operands (result_types o)

-- ---- registers, instances and outputs

-- the operands of the i-th leaf of a register, from what stands for its operands: a leaf of its data and of its reset value
abbrev pub leaf_operands : Bool → Reset → List (List Ref) → ℕ → List Ref
leaf_operands false no_reset (d ∷ c ∷ []) i = part d i ∷ c
leaf_operands true no_reset (d ∷ c ∷ e ∷ []) i = part d i ∷ (c ++ e)
leaf_operands false sync_reset (d ∷ c ∷ r ∷ v ∷ []) i = part d i ∷ (c ++ (r ++ (part v i ∷ [])))
leaf_operands true sync_reset (d ∷ c ∷ e ∷ r ∷ v ∷ []) i = part d i ∷ (c ++ (e ++ (r ++ (part v i ∷ []))))
leaf_operands _ _ _ i = []

-- a register for each of the types, from a number on
abbrev pub leaf_registers : Kind → (ℕ → List Ref) → ℕ → List HwType → List Op
leaf_registers kind operands i [] = []
leaf_registers kind operands i (t ∷ ts) = bare kind (operands i) (t ∷ []) ∷ leaf_registers kind operands (suc i) ts

-- the leaves of a type that there may be
abbrev pub leaves_of : Option HwType → List HwType
leaves_of None = []
leaves_of (Some t) = leaves t

-- the operation with what stands for its operands, and with the leaves of its results
abbrev pub spread : (Ref → List Ref) → Op → Op
spread parts o = bare (bare_kind o.kind) (flat_map parts o.operands) (flat_map leaves (result_types o))

abbrev pub lower_by_form : (Ref → List Ref) → Op → Option RegisterForm → List Op
lower_by_form parts o None = spread parts o ∷ []
lower_by_form parts o (Some f) =
    leaf_registers (bare_kind o.kind) (leaf_operands f.has_enable f.reset (map parts o.operands)) 0 (leaves_of (result_type o 0))

-- what becomes of a register, an instance or an output: a register is one for each leaf
abbrev pub lower_anchor : (Ref → List Ref) → Op → List Op
lower_anchor parts o = lower_by_form parts o (register_form o.kind)

-- where the leaves of result k begin among those of all results
abbrev pub result_start : Op → ℕ → ℕ
result_start o k = length (flat_map leaves (take k (result_types o)))
