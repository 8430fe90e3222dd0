-- Which values have a wire of their own.
use Rattle.std.specs.Prelude.{◌≡◌, ℕ, zero, suc, ◌+◌, Bool, true, false, cond, not, ◌&&◌, ◌||◌, nat_le, nat_lt, List, [], ◌∷◌, length, map, Option, Some, None, codes}
use Rattle.wiring.specs.Wiring.{greatest}
use Rattle.hw_model.specs.Types.{Name}
use Rattle.hw_model.specs.Kinds.{Kind}
use Rattle.hw_model.specs.Kinds.Kind.{extract, constant, wire}
use Rattle.hw_model.specs.Design.{Attribute, Entry, Ref, Port, Op, same_name, is_instance, is_register, is_output_op, result_type}
use Rattle.hw_model.specs.Design.Attribute.{text_value}
use Rattle.hw_model.specs.Flat.{width_of}
use Rattle.ir_store.specs.Positions.{same_ref}
use Rattle.verilog_expr.specs.Expressions.{op_at, value_width}

-- ---- operations

abbrev pub is_constant_kind : Kind → Bool
is_constant_kind (constant z) = true
is_constant_kind _ = false

abbrev pub is_wire_kind : Kind → Bool
is_wire_kind wire = true
is_wire_kind _ = false

-- whether an operation gives values from its operands alone, and can be written in place of its result
abbrev pub is_pure : Op → Bool
is_pure o = not (is_register o || (is_instance o || (is_output_op o || is_wire_kind o.kind)))

-- ---- hints

abbrev pub text_of : Attribute → Name
text_of (text_value t) = t
text_of _ = []

-- the text of the entry of a key, or none
abbrev pub text_at : Name → List Entry → Name
text_at key [] = []
text_at key (e ∷ es) = cond (same_name e.key key) (text_of e.value) (text_at key es)

-- the name that is wanted for an operation's value (CIRCT, `sv.namehint`)
abbrev pub hint_of : Op → Name
hint_of o = text_at (codes "sv.namehint") o.dictionary

-- ---- uses

abbrev pub one_if : Bool → ℕ
one_if true = 1
one_if false = 0

-- how many positions name a value
abbrev pub positions_in : Ref → List Ref → ℕ
positions_in r [] = 0
positions_in r (x ∷ xs) = one_if (same_ref x r) + positions_in r xs

abbrev pub use_count : List Op → Ref → ℕ
use_count [] r = 0
use_count (o ∷ os) r = positions_in r o.operands + use_count os r

-- whether an operation takes fewer bits than the value has
abbrev pub is_narrower : Kind → ℕ → ℕ → Bool
is_narrower (extract low) w operand_width = nat_lt w operand_width
is_narrower _ w operand_width = false

-- whether the operation is a narrower extract of the value, in a body with the given ports and operations
abbrev pub cuts : List Port → List Op → Ref → Op → Bool
cuts ports os r o = is_narrower o.kind (width_of (result_type o 0)) (value_width ports os r) && nat_lt 0 (positions_in r o.operands)

-- whether the operation is an instance with the value as an operand
abbrev pub joins : Ref → Op → Bool
joins r o = is_instance o && nat_lt 0 (positions_in r o.operands)

abbrev pub some_op : (Op → Bool) → List Op → Bool
some_op p [] = false
some_op p (o ∷ os) = p o || some_op p os

-- whether the value of a pure operation has a wire whatever its height: it has two uses or more, or is the operand of a
-- narrower extract or of an instance, or a name is wanted for it
abbrev pub is_shared : List Port → List Op → Ref → Op → Bool
is_shared ports os r o =
    (nat_le 2 (use_count os r) || some_op (cuts ports os r) os) || (some_op (joins r) os || is_some_name (hint_of o)) where
      is_some_name : Name → Bool
      is_some_name [] = false
      is_some_name (b ∷ bs) = true

-- ---- heights

-- the greatest height of an expression without a wire
abbrev pub height_limit : ℕ
height_limit = 64

-- what an operation is to those that use it
pub data Part : Type 0 where
  -- a name or a literal, as ports, registers, wires, instances and constants have
  flat : Part
  -- an operation that always has a wire
  shared : Part
  -- an operation that has one where it is too high
  nested : Part

abbrev pub part_of_op : List Port → List Op → Ref → Op → Part
part_of_op ports os r o = cond (is_pure o && not (is_constant_kind o.kind)) (cond (is_shared ports os r o) shared nested) flat

abbrev pub part_of : List Port → List Op → Ref → Option Op → Part
part_of ports os r None = flat
part_of ports os r (Some o) = part_of_op ports os r o

abbrev pub part : List Port → List Op → Ref → Part
part ports os r = part_of ports os r (op_at os r)

-- how high a value stands in the expression of an operation that uses it: 0 where it is a name there
abbrev pub height_under : Part → ℕ → ℕ
height_under flat h = 0
height_under shared h = 0
height_under nested h = cond (nat_le height_limit h) 0 h

abbrev pub operands_of : Option Op → List Ref
operands_of None = []
operands_of (Some o) = o.operands

abbrev pub operands_at : List Op → Ref → List Ref
operands_at os r = operands_of (op_at os r)

-- the height of a part, from the greatest of its operands' heights: 0 of what is a name or a literal
abbrev pub height_over : Part → ℕ → ℕ
height_over flat n = 0
height_over _ n = suc n

-- the height of a value: one more than the greatest of its operation's operands
abbrev pub height_step : List Port → List Op → (Ref → ℕ) → Ref → ℕ
height_step ports os h r =
    height_over (part ports os r) (greatest (map (λ x. height_under (part ports os x) (h x)) (operands_at os r)))

-- the heights of a body's values, each from those of its operation's operands
abbrev pub AreHeights : List Port → List Op → (Ref → ℕ) → Type 0
AreHeights ports os h = (r : Ref) → h r ≡ height_step ports os h r

abbrev pub height_to : ℕ → List Port → List Op → Ref → ℕ
height_to zero ports os r = 0
height_to (suc n) ports os r = height_step ports os (height_to n ports os) r

-- in a body in which no value depends on itself no chain of operations is longer than the body
unfoldable pub height : List Port → List Op → Ref → ℕ
height ports os r = height_to (suc (length os)) ports os r

-- ---- wires

abbrev pub has_wire : Part → ℕ → Bool
has_wire flat h = false
has_wire shared h = true
has_wire nested h = nat_le height_limit h

-- a constant has a wire only as the operand of a narrower extract
abbrev pub spilled_op : List Port → List Op → Ref → Option Op → Bool
spilled_op ports os r None = false
spilled_op ports os r (Some o) = cond (is_constant_kind o.kind) (some_op (cuts ports os r) os) (has_wire (part_of_op ports os r o) (height ports os r))

-- whether a value has a wire of its own
unfoldable pub spilled : List Port → List Op → Ref → Bool
spilled ports os r = spilled_op ports os r (op_at os r)

-- ---- bodies without cycles

abbrev pub inner_of : Option Op → List Ref
inner_of None = []
inner_of (Some o) = cond (is_pure o) o.operands []

-- the values that a value is made from by a pure operation
abbrev pub inner_needs : List Op → Ref → List Ref
inner_needs os r = inner_of (op_at os r)
