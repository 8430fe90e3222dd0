-- Operations of a body in code that have one value (MLIR documentation, "Passes": `cse`).
use Rattle.std.specs.Prelude.{Bool, false, ◌&&◌, List, map, Option, Some, option_map, slice_get}
use Rattle.std.specs.Cmp.Lexicographic.{pointwise}
use Rattle.hw_model.specs.Types.{HwType}
use Rattle.hw_model.specs.Design.{OpResult}
use Rattle.hw_model.specs.SameKind.{same_kind}
use Rattle.hw_model.specs.SameType.{same_type}
use Rattle.ir_store.specs.declared.operation.OpId.{OpId}
use Rattle.ir_store.specs.declared.operation.Value.{Value}
use Rattle.ir_store.specs.BodyOps.{BodyOp, op_at, same_value}
use Rattle.ir_store.specs.OperationViews.{OpParts}
use Rattle.cse_pass.specs.EqualOps.{value_kind}

-- the type of the first result
abbrev pub first_type : OpParts → Option HwType
first_type p = option_map (λ (r : OpResult). r.type) (slice_get p.results 0)

-- the types of the results
abbrev pub types_of_results : OpParts → List HwType
types_of_results p = map (λ (r : OpResult). r.type) p.results

-- whether two operations, operands by ids, have the same kind, operands and types
unfoldable pub are_same : OpParts → List Value → OpParts → List Value → Bool
are_same p vs q ws =
    same_kind (value_kind (first_type p) p.kind) (value_kind (first_type q) q.kind)
    && (pointwise same_value vs ws && (pointwise same_type p.types q.types && pointwise same_type (types_of_results p) (types_of_results q)))

-- whether two operations, where both are there, are so
abbrev pub are_same_ops : Option BodyOp → Option BodyOp → Bool
are_same_ops (Some o) (Some p) = are_same o.parts o.operands p.parts p.operands
are_same_ops _ _ = false

-- whether those of two ids are so
abbrev pub are_same_at : List BodyOp → OpId → OpId → Bool
are_same_at ops a b = are_same_ops (op_at ops a.index) (op_at ops b.index)
