use Rattle.std.proofs.Common.{◌≡◌, ◌++◌, map}
use Rattle.ir_store.specs.Bodies.{ops_of}
use Rattle.ir_store.specs.Numbered.{op_by}
use Rattle.mlir_reader.specs.Drafts.{operation_of_draft}
use Rattle.mlir_reader.specs.Held.{draft_operations, IsNumbered}
use Rattle.mlir_reader.specs.Meanings.{meanings_of}
use Rattle.mlir_reader.proofs.draft.Draft.finish.Given as goal

abbrev pub invariant-loop-draft : goal.invariant-loop-draft
invariant-loop-draft l = record {
  operations : map (op_by (λ i. i)) (ops_of l.body) ++ map (operation_of_draft (meanings_of l.names)) l.draft-iterator.rest.items ≡ draft_operations (meanings_of l.names) l.fn.self;
  numbered : IsNumbered l.fn.self.body → IsNumbered l.body;
}
