-- A body whose operations are read one by one, and put into it once the names of their operands stand for something.
use Rattle.std.specs.Prelude.{◌≡◌, ℕ, suc, ◌+◌, ◌<◌, ◌^◌, true, cond, List, [], ◌∷◌, ◌++◌, length, map, is_some}
use Rattle.hw_model.specs.Types.{Name}
use Rattle.hw_model.specs.Design.{Op}
use Rattle.ir_store.specs.Bodies.{ops_of, ids_of, gaps}
use Rattle.ir_store.specs.Numbered.{op_by}
use Rattle.ir_store.specs.declared.body.Body.{Body}
use Rattle.mlir_reader.specs.Meanings.{meanings_of, op_of, numbers_below}
use Rattle.mlir_operations.specs.OperandText.{OperandName}
use Rattle.mlir_operations.specs.OperationText.{OperationText}
use Rattle.mlir_reader.specs.Resolving.{Meanings, resolve_operand, with_definitions, body_definitions, operations_from}
use Rattle.mlir_operations.specs.Views.{operand_of}
use Rattle.mlir_reader.specs.declared.draft.Draft.{Draft}
use Rattle.mlir_reader.specs.declared.draft.DraftOperation.{DraftOperation}

-- an operation whose operands are names, where names stand for this
abbrev pub operation_of_draft : Meanings → DraftOperation → Op
operation_of_draft means d = record (op_of d.operation) { operands = map (resolve_operand means) (map operand_of d.operands.items) }

-- how many operands stand before the first whose name stands for nothing
abbrev pub found_count : Meanings → List OperandName → ℕ
found_count means [] = 0
found_count means (o ∷ os) = cond (is_some (means o.name)) (suc (found_count means os)) 0

-- what stands for something stands for the same later
abbrev pub Keeps : Meanings → Meanings → Type 0
Keeps means later = (name : Name) → is_some (means name) ≡ true → later name ≡ means name

-- these operations are read, where names stood for this before them: whatever is read further, those that are put into the body and
-- those that wait are the operations of the text
pub record Drafts (seen : Meanings) (os : List OperationText) (d : Draft) : Type 0 where
  pub means : meanings_of d.names ≡ with_definitions seen (body_definitions 0 os)
  pub ops : (later : Meanings) → Keeps (meanings_of d.names) later
      → map (op_by (λ i. i)) (ops_of d.body) ++ map (operation_of_draft later) d.waiting.items ≡ operations_from later seen 0 os
  pub ids : ids_of d.body ≡ numbers_below (length (ids_of d.body))
  pub all : length (ids_of d.body) + length d.waiting.items ≡ length os
  pub count : d.count ≡ length os
  pub few : length os + 1 < 2 ^ 32
  pub gaps : gaps d.body ≡ 0

-- a body is that of these operations, where names stood for this before them
pub record IsBody (seen : Meanings) (os : List OperationText) (body : Body) : Type 0 where
  pub ops : map (op_by (λ i. i)) (ops_of body) ≡ operations_from (with_definitions seen (body_definitions 0 os)) seen 0 os
  pub ids : ids_of body ≡ numbers_below (length os)
  pub few : length os + 1 < 2 ^ 32
  pub gaps : gaps body ≡ 0
