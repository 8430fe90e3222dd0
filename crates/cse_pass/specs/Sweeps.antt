-- Sweeps over a body in code, and visits of its operations.
use Rattle.std.specs.Prelude.{◌≡◌, ◌<◌, ℕ, suc, Bool, true, false, cond, nat_eq, List, length, map, take, remove, Some, None}
use Rattle.hw_model.specs.Design.{Op}
use Rattle.ir_store.specs.declared.body.Body.{Body}
use Rattle.ir_store.specs.declared.operation.OpId.{OpId}
use Rattle.ir_store.specs.declared.operation.Value.{Value}
use Rattle.ir_store.specs.declared.operation.Value.TheVariants.{Port, Result, Undefined}
use Rattle.ir_store.specs.Bodies.{ids_of, ops_of}
use Rattle.ir_store.specs.BodyOps.{BodyOp, taken_out}
use Rattle.body_edits.specs.Views.{body_ops}
use Rattle.cse_pass.specs.declared.groups.Groups.{Groups}
use Rattle.cse_pass.specs.EqualOps.{equal_before}
use Rattle.cse_pass.specs.Groups.{IsGrouping}
use Rattle.cse_pass.specs.Merges.{merge_op, merge_sweep, HasNoEqual}
use Rattle.cse_pass.specs.Trims.{trim_sweep, HasNoUnused}

-- ---- an operation that stands for another one, by ids

-- a value, where the results of one operation stand for those of another
abbrev pub merged_value : OpId → OpId → Value → Value
merged_value op first (Port n) = Port n
merged_value op first (Result id k) = cond (nat_eq id.index op.index) (Result first k) (Result id k)
merged_value op first Undefined = Undefined

abbrev pub with_merged : OpId → OpId → BodyOp → BodyOp
with_merged op first o = record o { operands = map (merged_value op first) o.operands }

-- of the body before, an operation is gone for which another one stands
abbrev pub IsMergedInto : Body → Body → OpId → OpId → Type 0
IsMergedInto before after op first = ops_of after ≡ taken_out op.index (map (with_merged op first) (ops_of before))

-- ---- visits

-- the operation at a position is merged into an earlier one, and those before it stand in groups
pub record IsMergedAt (before after : Body) (groups : Groups) (i : ℕ) : Type 0 where
  pub earlier : ℕ
  pub equal : equal_before (body_ops before) i ≡ Some earlier
  pub ops : body_ops after ≡ merge_op i earlier (body_ops before)
  pub ids : ids_of after ≡ remove (ids_of before) i
  pub grouped : IsGrouping groups (take i (ops_of after))

-- no earlier operation is equal to the one at position i, and it is put into the groups
pub record IsPassedAt (before after : Body) (groups : Groups) (i : ℕ) : Type 0 where
  pub none : equal_before (body_ops before) i ≡ None
  pub ops : ops_of after ≡ ops_of before
  pub grouped : IsGrouping groups (take (suc i) (ops_of after))

abbrev pub IsVisited : Body → Body → Groups → ℕ → Bool → Type 0
IsVisited before after groups i true = IsMergedAt before after groups i
IsVisited before after groups i false = IsPassedAt before after groups i

-- ---- sweeps

-- a sweep makes these of operations, and merges some or none
pub record IsMergeSweep (before : List Op) (merged : Bool) (after : List Op) : Type 0 where
  pub is : after ≡ merge_sweep (length before) 0 before
  pub fewer : merged ≡ true → length after < length before
  pub none : merged ≡ false → HasNoEqual after

-- a sweep makes these of operations, and takes some out or none
pub record IsTrimSweep (before : List Op) (erased : Bool) (after : List Op) : Type 0 where
  pub is : after ≡ trim_sweep (length before) before
  pub fewer : erased ≡ true → length after < length before
  pub none : erased ≡ false → HasNoUnused after
