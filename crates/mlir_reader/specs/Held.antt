-- What a draft holds, and the values that names of operands stand for whatever is read further.
use Rattle.std.specs.Prelude.{◌≡◌, List, [], ◌∷◌, ◌++◌, length, map}
use Rattle.hw_model.specs.Design.{Op, Ref}
use Rattle.ir_store.specs.Bodies.{ops_of, ids_of, gaps}
use Rattle.ir_store.specs.Numbered.{op_by}
use Rattle.ir_store.specs.declared.body.Body.{Body}
use Rattle.mlir_reader.specs.Drafts.{Keeps, operation_of_draft}
use Rattle.mlir_reader.specs.Meanings.{meanings_of, numbers_below}
use Rattle.mlir_operations.specs.OperandText.{OperandName}
use Rattle.mlir_reader.specs.Resolving.{Meanings, resolve_operand}
use Rattle.mlir_operations.specs.Views.{operand_of}
use Rattle.mlir_reader.specs.declared.draft.Draft.{Draft}
use Rattle.mlir_reader.specs.declared.draft.DraftOperation.{DraftOperation}

-- the operations of a draft, where names stand for this
abbrev pub draft_operations : Meanings → Draft → List Op
draft_operations later d = map (op_by (λ i. i)) (ops_of d.body) ++ map (operation_of_draft later) d.waiting.items

-- the ids of a body are its positions, and those that are next are too
abbrev pub IsNumbered : Body → Type 0
IsNumbered b = (ids_of b ≡ numbers_below (length (ids_of b))) × (gaps b ≡ 0)

-- this operand names this value, whatever is read further
abbrev pub IsSettled : Meanings → OperandName → Ref → Type 0
IsSettled means o ref = (later : Meanings) → Keeps means later → ref ≡ resolve_operand later o

-- these operands name these values, whatever is read further
abbrev pub AreSettled : Meanings → List OperandName → List Ref → Type 0
AreSettled means os refs = (later : Meanings) → Keeps means later → refs ≡ map (resolve_operand later) os

-- an operation with these operands
abbrev pub with_operands : Op → List Ref → Op
with_operands o refs = record o { operands = refs }

-- the operands of the first that waits, where one does, name these values
abbrev pub FirstSettled : Meanings → List DraftOperation → List Ref → Type 0
FirstSettled means [] refs = Unit {0}
FirstSettled means (d ∷ ds) refs = AreSettled means (map operand_of d.operands.items) refs

-- the names and the operations of a draft are those of another
pub record HoldsSame (old new : Draft) : Type 0 where
  pub names : new.names ≡ old.names
  pub count : new.count ≡ old.count
  pub ops : (later : Meanings) → Keeps (meanings_of old.names) later → draft_operations later new ≡ draft_operations later old
  pub numbered : IsNumbered old.body → IsNumbered new.body

-- the names of a draft are those of another, and so are its operations, with one after them that is this where names stand for that
pub record HoldsMore (old : Draft) (op : Meanings → Op) (new : Draft) : Type 0 where
  pub names : new.names ≡ old.names
  pub count : new.count ≡ old.count
  pub ops : (later : Meanings) → Keeps (meanings_of old.names) later → draft_operations later new ≡ draft_operations later old ++ op later ∷ []
  pub numbered : IsNumbered old.body → IsNumbered new.body
