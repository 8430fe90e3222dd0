-- What code draws for a module, and the operations that it makes.
use Rattle.std.specs.Prelude.{◌≡◌, ℕ, suc, ◌+◌, List, [], ◌∷◌, length, zero}
use Rattle.hw_model.specs.Design.{Op}
use Rattle.ir_store.specs.declared.body.Body.{Body}
use Rattle.ir_store.specs.declared.operation.NewOp.{NewOp}
use Rattle.ir_store.specs.Bodies.{ids_of, gaps, op_id}
use Rattle.ir_store.specs.BodyOps.{as_new}
use Rattle.ir_store.specs.Numbered.{op_by}
use Rattle.generator.specs.Draws.{number_drawn}
use Rattle.generator.specs.declared.draws.Drawn.{Drawn}

-- the four numbers that a module draws, x being the state before
abbrev pub drawn_from : ℕ → Drawn
drawn_from x = record { constant = number_drawn x 1; first = number_drawn x 2; second = number_drawn x 3; third = number_drawn x 4 }

-- an operation that is put into a body in which ids are positions
abbrev pub op_seen : NewOp → Op
op_seen o = op_by (λ i. i) (as_new (op_id 0) o)

-- the numbers from one on, so many
abbrev pub numbers_from : ℕ → ℕ → List ℕ
numbers_from first zero = []
numbers_from first (suc n) = first ∷ numbers_from (first + 1) n

-- in the body ids are positions, and the next one is too
pub record IsNumbered (b : Body) : Type 0 where
  pub ids : ids_of b ≡ numbers_from 0 (length (ids_of b))
  pub gaps : gaps b ≡ 0
