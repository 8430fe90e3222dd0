-- What code builds, as the definitions speak of it.
use Rattle.std.specs.Prelude.{◌≡◌, ℕ, zero, suc, List, [], ◌∷◌, length, map}
use Rattle.hw_model.specs.Types.{HwType}
use Rattle.hw_model.specs.Design.{Ref, Op}
use Rattle.ir_store.specs.declared.body.Body.{Body}
use Rattle.ir_store.specs.declared.operation.NewOp.{NewOp}
use Rattle.ir_store.specs.Bodies.{ops_of, ids_of, gaps, op_id}
use Rattle.ir_store.specs.BodyOps.{as_new}
use Rattle.ir_store.specs.Numbered.{op_by}
use Rattle.aiger_design.specs.Operations.{one_bit, register_op, and_op, output_op}
use Rattle.aiger_text.specs.declared.operations.Made.{Made}
use Rattle.aiger_text.specs.declared.operations.Made.TheVariants.{Register, Conjunction, Output}

-- an operation that is put into a body in which ids are positions
abbrev pub op_seen : NewOp → Op
op_seen o = op_by (λ i. i) (as_new (op_id 0) o)

-- the operations of a body in which ids are positions
abbrev pub seen : Body → List Op
seen b = map (op_by (λ i. i)) (ops_of b)

-- the numbers from one on, so many
abbrev pub numbers_from : ℕ → ℕ → List ℕ
numbers_from first zero = []
numbers_from first (suc n) = first ∷ numbers_from (suc first) n

-- in the body ids are positions, and the next one is too
pub record IsNumbered (b : Body) : Type 0 where
  pub ids : ids_of b ≡ numbers_from 0 (length (ids_of b))
  pub gaps : gaps b ≡ 0

-- so many types of one bit
abbrev pub bit_types : ℕ → List HwType
bit_types zero = []
bit_types (suc n) = one_bit ∷ bit_types n

-- what a user of literals makes of their values
abbrev pub made_of : Made → List Ref → Op
made_of (Register k) = register_op k
made_of Conjunction = and_op
made_of Output = output_op
