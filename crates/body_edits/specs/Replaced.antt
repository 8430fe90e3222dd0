-- Operations that stand in the place of others of a body in code (MLIR documentation, "Pattern Rewriting": replacing an
-- operation with a new one).
use Rattle.std.specs.Prelude.{◌≡◌, ℕ, List, [], map, set, Option, Some, Contains, slice_get, option_and_then}
use Rattle.wiring.specs.Wiring.{In}
use Rattle.hw_model.specs.Types.{HwType}
use Rattle.hw_model.specs.Design.{Location, Ref, Op, result_type}
use Rattle.ir_store.specs.declared.body.Body.{Body}
use Rattle.ir_store.specs.declared.operation.NewOp.{NewOp}
use Rattle.ir_store.specs.Bodies.{ids_of}
use Rattle.ir_store.specs.OperationViews.{OpParts, new_parts}
use Rattle.fold_laws.specs.Numbers.{number_op}
use Rattle.body_edits.specs.Views.{body_ops, value_ref}

-- the type of the first result of the operation at a position
abbrev pub first_type_at : List Op → ℕ → Option HwType
first_type_at os i = option_and_then (λ (o : Op). result_type o 0) (slice_get os i)

-- an operation without operands
abbrev pub plain_op : OpParts → Op
plain_op p = record {
  kind = p.kind;
  operands = [];
  types = p.types;
  results = p.results;
  named = p.named;
  name = p.name;
  dictionary = p.dictionary;
  bin = p.bin;
  location = p.location;
}

-- a new operation, by the positions of a body
abbrev pub new_seen : Body → NewOp → Op
new_seen b o = record (plain_op (new_parts o)) { operands = map (value_ref b) o.operands.items }

-- some operation has the operand
pub record IsNamed (os : List Op) (r : Ref) : Type 0 where
  pub op : Op
  pub there : In op os
  pub named : In r op.operands

-- each operand of an operation is one that some operation has
abbrev pub HasNamed : List Op → Op → Type 0
HasNamed os o = (r : Ref) → In r o.operands → IsNamed os r

-- the new operation is the hw.constant of a number and a type, at a location of the text
pub record IsNumberOp (n : ℕ) (t : HwType) (location : Location) (o : NewOp) : Type 0 where
  pub operands : o.operands.items ≡ []
  pub is : plain_op (new_parts o) ≡ number_op n t location

-- in the body after, another operation, of a fresh id, stands in the place of the one at position i
pub record IsReplaced (before after : Body) (i : ℕ) (o : Op) : Type 0 where
  pub ops : body_ops after ≡ set (body_ops before) i o
  pub fresh : ℕ
  pub is_fresh : Contains (ids_of before) fresh → ⊥
  pub ids : ids_of after ≡ set (ids_of before) i fresh

-- in the body after, the constant of a number stands there, which has the type of the first result of that one and its
-- location in the text
pub record HasNumber (before after : Body) (i n : ℕ) : Type 0 where
  pub op : Op
  pub there : slice_get (body_ops before) i ≡ Some op
  pub type : HwType
  pub typed : result_type op 0 ≡ Some type
  pub replaced : IsReplaced before after i (number_op n type op.location)
