-- Operations by positions, where one is put in or taken out, or where operands change.
use Rattle.std.specs.Prelude.{ℕ, zero, suc, Bool, true, false, cond, ◌&&◌, nat_eq, List, [], ◌∷◌, Option, Some, None, map, option_map, insert, remove}
use Rattle.hw_model.specs.Design.{Op, Ref}
use Rattle.hw_model.specs.Design.Ref.{port, result, undefined}

-- an operation with each operand changed
abbrev pub retarget : (Ref → Ref) → Op → Op
retarget f o = record o { operands = map f o.operands }

-- where position j is once something is put in at position i
abbrev pub position_after_insert : ℕ → ℕ → ℕ
position_after_insert zero j = suc j
position_after_insert (suc i) zero = zero
position_after_insert (suc i) (suc j) = suc (position_after_insert i j)

-- where position j is once position i is taken out; None at i
abbrev pub position_after_erase : ℕ → ℕ → Option ℕ
position_after_erase zero zero = None
position_after_erase zero (suc j) = Some j
position_after_erase (suc i) zero = Some zero
position_after_erase (suc i) (suc j) = option_map suc (position_after_erase i j)

-- an operand once an operation is put in at position i
abbrev pub pushed_ref : ℕ → Ref → Ref
pushed_ref i (port n) = port n
pushed_ref i (result j k) = result (position_after_insert i j) k
pushed_ref i undefined = undefined

-- result k of the operation at a position; of one that is gone, nothing
abbrev pub result_at : Option ℕ → ℕ → Ref
result_at (Some j) k = result j k
result_at None k = undefined

-- an operand once the operation at position i is taken out
abbrev pub pulled_ref : ℕ → Ref → Ref
pulled_ref i (port n) = port n
pulled_ref i (result j k) = result_at (position_after_erase i j) k
pulled_ref i undefined = undefined

-- the operations with one put in at position i, its operands being those of the body as it was
abbrev pub with_op : ℕ → Op → List Op → List Op
with_op i o ops = insert (map (retarget (pushed_ref i)) ops) i (retarget (pushed_ref i) o)

-- the operations without that at position i
abbrev pub without_op : ℕ → List Op → List Op
without_op i ops = map (retarget (pulled_ref i)) (remove ops i)

-- the operations with other operands at position i
abbrev pub with_operands : ℕ → (List Ref → List Ref) → List Op → List Op
with_operands i f [] = []
with_operands zero f (o ∷ ops) = record o { operands = f o.operands } ∷ ops
with_operands (suc i) f (o ∷ ops) = o ∷ with_operands i f ops

-- whether two operands are the same
abbrev pub same_ref : Ref → Ref → Bool
same_ref (port m) (port n) = nat_eq m n
same_ref (result i m) (result j n) = nat_eq i j && nat_eq m n
same_ref undefined undefined = true
same_ref _ _ = false

-- an operand, where one value stands for another
abbrev pub replaced_ref : Ref → Ref → Ref → Ref
replaced_ref from to r = cond (same_ref from r) to r
