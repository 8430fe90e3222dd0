-- When a value has a wire of its own, said as a rule: by its uses, its hint and its height.
use Rattle.std.specs.Prelude.{◌≡◌, ℕ, ◌≤◌, true, false, cond, List, [], Some, map, slice_get}
use Rattle.wiring.specs.Wiring.{In}
use Rattle.hw_model.specs.Design.{Ref, Port, Op, is_instance, result_type}
use Rattle.hw_model.specs.Flat.{width_of}
use Rattle.verilog_expr.specs.Expressions.{op_at, value_width}
use Rattle.verilog_expr.specs.Spilling.{is_pure, is_constant_kind, is_narrower, hint_of, use_count, height, height_limit, spilled}

-- the value is that of a pure operation other than a constant
pub record IsComputed (os : List Op) (r : Ref) (o : Op) : Type 0 where
  pub there : op_at os r ≡ Some o
  pub pure : is_pure o ≡ true
  pub no_constant : is_constant_kind o.kind ≡ false

-- the value is an operand of an extract of fewer bits than it has
pub record IsCut (ports : List Port) (os : List Op) (r : Ref) : Type 0 where
  pub position : ℕ
  pub op : Op
  pub there : slice_get os position ≡ Some op
  pub operand : In r op.operands
  pub narrower : is_narrower op.kind (width_of (result_type op 0)) (value_width ports os r) ≡ true

-- the value is an operand of an instance
pub record IsJoined (os : List Op) (r : Ref) : Type 0 where
  pub position : ℕ
  pub op : Op
  pub there : slice_get os position ≡ Some op
  pub operand : In r op.operands
  pub instance : is_instance op ≡ true

-- why a value that is computed has a wire
pub data WantsWire (ports : List Port) (os : List Op) (r : Ref) (o : Op) : Type 0 where
  used_twice : 2 ≤ use_count os r → WantsWire ports os r o
  cut : IsCut ports os r → WantsWire ports os r o
  joined : IsJoined os r → WantsWire ports os r o
  hinted : (hint_of o ≡ [] → ⊥) → WantsWire ports os r o
  high : height ports os r ≡ height_limit → WantsWire ports os r o

-- how high operands stand: one with a wire stands by its name
abbrev pub heights_without_wire : List Port → List Op → List Ref → List ℕ
heights_without_wire ports os xs = map (λ x. cond (spilled ports os x) 0 (height ports os x)) xs
