-- Wires of a body that are taken out one after another (CIRCT, HW dialect: `hw.wire`).
use Rattle.std.specs.Prelude.{◌≡◌, ℕ, true, All, List, [], ◌∷◌, ◌++◌, cond, map, Option, Some, None, slice_get, remove}
use Rattle.wiring.specs.Wiring.{In}
use Rattle.ir_store.specs.declared.operation.OpId.{OpId}
use Rattle.ir_store.specs.declared.operation.Value.{Value}
use Rattle.ir_store.specs.declared.operation.Value.TheVariants.{Result, Undefined}
use Rattle.ir_store.specs.BodyOps.{BodyOp, ids_in, op_at, is_of, same_value}
use Rattle.ir_store.specs.Live.{AreLive}
use Rattle.ir_store.specs.Numbered.{position_of}

-- the value, where there is one
abbrev pub value_or_undefined : Option Value → Value
value_or_undefined None = Undefined
value_or_undefined (Some v) = v

-- the value, unless it is a result of the operation of an id
abbrev pub other_value : ℕ → Value → Value
other_value id v = cond (is_of id v) Undefined v

-- a value is the first result of an operation where it is one of its results
abbrev pub IsFirstOf : OpId → Value → Type 0
IsFirstOf op v = is_of op.index v ≡ true → same_value (Result op 0) v ≡ true

-- so is each operand, for operations of some ids
abbrev pub HaveFirstOnly : List OpId → List BodyOp → Type 0
HaveFirstOnly wires ops = (w : OpId) → In w wires → All (λ (o : BodyOp). All (IsFirstOf w) o.operands) ops

-- the operations of these ids stand side by side in a body whose operands are there, and nothing names a further result
pub record StandTogether (wires : List OpId) (ops : List BodyOp) : Type 0 where
  pub prefix : List ℕ
  pub back : List ℕ
  pub ids : ids_in ops ≡ prefix ++ (map (λ (i : OpId). i.index) wires ++ back)
  pub live : AreLive ops
  pub first_only : HaveFirstOnly wires ops

-- the position of the first of some ids
abbrev pub first_position : List ℕ → List OpId → ℕ
first_position ids [] = 0
first_position ids (w ∷ wires) = position_of ids w.index

-- the first operand of an operation, unless that is its own result
abbrev pub carried_by : ℕ → Option BodyOp → Value
carried_by id None = Undefined
carried_by id (Some o) = other_value id (value_or_undefined (slice_get o.operands 0))

-- that of the operation of an id
abbrev pub carried_value : ℕ → List BodyOp → Value
carried_value id ops = carried_by id (op_at ops id)

-- ids without the first position of each of some
abbrev pub ids_without : List OpId → List ℕ → List ℕ
ids_without [] ids = ids
ids_without (w ∷ wires) ids = ids_without wires (remove ids (position_of ids w.index))
