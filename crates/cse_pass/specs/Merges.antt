-- An operation that is equal to an earlier one of its body goes, and that one stands for it (MLIR documentation, "Passes": `cse`).
use Rattle.std.specs.Prelude.{◌≡◌, ℕ, zero, suc, List, map, length, Option, Some, None}
use Rattle.std.specs.List.{remove}
use Rattle.hw_model.specs.Design.{Ref, Op}
use Rattle.hw_model.specs.Design.Ref.{port, result, undefined}
use Rattle.edit_laws.specs.Edit.{retarget}
use Rattle.edit_laws.specs.Laws.{down}
use Rattle.pass_laws.specs.Steps.{StepsBy}
use Rattle.cse_pass.specs.EqualOps.{equal_before, EqualFound}

-- a value once the operation at position i is gone, that at position j before it standing for it
abbrev pub merged_at : Option ℕ → ℕ → ℕ → Ref
merged_at (Some n) j k = result n k
merged_at None j k = result j k

abbrev pub merged_ref : ℕ → ℕ → Ref → Ref
merged_ref i j (port n) = port n
merged_ref i j (result n k) = merged_at (down i n) j k
merged_ref i j undefined = undefined

-- the body without the operation at position i
abbrev pub merge_op : ℕ → ℕ → List Op → List Op
merge_op i j os = map (retarget (merged_ref i j)) (remove os i)

-- a single merge: a pure operation goes, and any equal one before it stands for it
pub record IsMerge (before after : List Op) : Type 0 where
  pub at : ℕ
  pub earlier : ℕ
  pub found : EqualFound before at earlier
  pub is : after ≡ merge_op at earlier before

-- so many merges, one after another, lead from operations to others
abbrev pub MergesBy : ℕ → List Op → List Op → Type 0
MergesBy n before after = StepsBy IsMerge n before after

pub record MergesInto (before after : List Op) : Type 0 where
  pub count : ℕ
  pub leads : MergesBy count before after

-- the operation at the position of a sweep goes where an earlier one is equal, else the sweep goes on at the next position;
-- `rest` is what the sweep does from a position on
abbrev pub merge_at : (ℕ → List Op → List Op) → ℕ → List Op → Option ℕ → List Op
merge_at rest i os None = rest (suc i) os
merge_at rest i os (Some j) = rest i (merge_op i j os)

-- a sweep over so many operations from a position on, in text order
abbrev pub merge_sweep : ℕ → ℕ → List Op → List Op
merge_sweep zero i os = os
merge_sweep (suc n) i os = merge_at (λ k xs. merge_sweep n k xs) i os (equal_before os i)

-- the operations after so many sweeps over the whole body, in which equal ones are merged
abbrev pub merges : ℕ → List Op → List Op
merges zero os = os
merges (suc n) os = merges n (merge_sweep (length os) 0 os)

-- no pure operation is equal to an earlier one
abbrev pub HasNoEqual : List Op → Type 0
HasNoEqual os = (i : ℕ) → equal_before os i ≡ None

-- sweeps make the second body of the first, in which no operation is equal to an earlier one
pub record IsMerged (before after : List Op) : Type 0 where
  pub sweeps : ℕ
  pub is : after ≡ merges sweeps before
  pub none_left : HasNoEqual after
