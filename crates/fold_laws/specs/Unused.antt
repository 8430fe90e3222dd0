-- The fold by which an operation goes whose results nothing uses (MLIR documentation, "Operation canonicalization").
use Rattle.std.specs.Prelude.{ℕ, Bool, true, false, cond, not, ◌&&◌, ◌||◌, nat_eq, List, [], ◌∷◌, Some, None, slice_get, option_and_then}
use Rattle.std.specs.List.{list_any}
use Rattle.hw_model.specs.Kinds.{Kind}
use Rattle.hw_model.specs.Kinds.Kind.{wire, instance, output, register, async_firreg}
use Rattle.hw_model.specs.Design.{Ref, Op}
use Rattle.hw_model.specs.Design.Ref.{port, result, undefined}
use Rattle.fold_laws.specs.Edits.{FoldPattern}
use Rattle.fold_laws.specs.Edits.Edit.{erased}

-- whether an operation only computes its results: all but registers, wires, instances and outputs do
abbrev pub is_pure : Kind → Bool
is_pure wire = false
is_pure (instance i) = false
is_pure output = false
is_pure (register f r) = false
is_pure async_firreg = false
is_pure _ = true

-- whether a value is a result of the operation at a position
abbrev pub is_result_of : ℕ → Ref → Bool
is_result_of i (port j) = false
is_result_of i (result j k) = nat_eq j i
is_result_of i undefined = false

-- whether some operand of a body is
abbrev pub is_used : ℕ → List Op → Bool
is_used i [] = false
is_used i (o ∷ os) = list_any (is_result_of i) o.operands || is_used i os

-- a pure operation without uses goes
abbrev pub fold_unused : FoldPattern
fold_unused os i = option_and_then (λ (o : Op). cond (is_pure o.kind && not (is_used i os)) (Some (erased i undefined ∷ [])) None) (slice_get os i)
