-- Uses of results that instances pass through take the instances' operands (CIRCT, HW dialect: `hw-flatten-modules`).
use Rattle.std.specs.Prelude.{◌≡◌, ℕ, ◌<◌, false, List, length, Option, Some, None, slice_get, All, IfSome}
use Rattle.hw_model.specs.Types.{Name}
use Rattle.hw_model.specs.Design.{Op, Module, output_refs}
use Rattle.hw_model.specs.Design.Ref.{port}
use Rattle.ir_store.specs.declared.body.Body.{Body}
use Rattle.ir_store.specs.declared.operation.OpId.{OpId}
use Rattle.ir_store.specs.declared.operation.Value.{Value}
use Rattle.ir_store.specs.declared.operation.Value.TheVariants.{Port, Result, Undefined}
use Rattle.ir_store.specs.Bodies.{ids_of}
use Rattle.ir_store.specs.BodyOps.{BodyOp, op_at, is_of}
use Rattle.body_edits.specs.Views.{body_ops}
use Rattle.body_edits.specs.WiresOut.{value_or_undefined}
use Rattle.inline_pass.specs.Flattening.{inline_all, by_kind}
use Rattle.inline_pass.specs.MovedOps.{joined_values}
use Rattle.inline_pass.specs.OperandsThere.{HaveThereFrom}

-- what is joined to the port that a module gives to an output, if it gives a port
abbrev pub joined_to : List Value → Option Value → Option Value
joined_to joined None = None
joined_to joined (Some (Port j)) = Some (value_or_undefined (slice_get joined j))
joined_to joined (Some (Result id k)) = None
joined_to joined (Some Undefined) = None

-- the same of the output of a number
abbrev pub passed_value : List Value → List Value → ℕ → Option Value
passed_value given joined k = joined_to joined (slice_get given k)

-- the value is no result of an operation for whose kind `look` gives a module
abbrev pub IsFinal : (Name → Option Module) → List BodyOp → Value → Type 0
IsFinal look ops (Port j) = Unit {0}
IsFinal look ops (Result id k) = IfSome (op_at ops id.index) (λ o. by_kind look o.parts.kind ≡ None)
IsFinal look ops Undefined = Unit {0}

-- `look` gives a module for the kind of the operation of an id; it gives to its output k an input, which the operation joins
-- to the value v; no operand is a result of the operation itself
pub record IsPassed (look : Name → Option Module) (ops : List BodyOp) (op : OpId) (k : ℕ) (v : Value) : Type 0 where
  pub instance : BodyOp
  pub found : op_at ops op.index ≡ Some instance
  pub callee : Module
  pub is : by_kind look instance.parts.kind ≡ Some callee
  pub within : k < length instance.parts.results
  pub input : ℕ
  pub gives : slice_get (output_refs callee.body) k ≡ Some (port input)
  pub takes : value_or_undefined (slice_get (joined_values callee.ports instance.operands) input) ≡ v
  pub others : All (λ y. is_of op.index y ≡ false) instance.operands

-- both bodies have the same ids in the same order, and inlining makes the same of both; the operands of the second are there
pub record InlinesAlike (inner : Op → Option Module) (before after : Body) : Type 0 where
  pub ids : ids_of after ≡ ids_of before
  pub there : HaveThereFrom 0 (body_ops after)
  pub alike : inline_all inner (body_ops after) ≡ inline_all inner (body_ops before)
