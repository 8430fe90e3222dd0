-- An operation after those that wait is that of its text, whatever its operands stand for later.
use Rattle.std.proofs.Common.{map, refl, ap, ◌∙◌}
use Rattle.mlir_reader.specs.Held.{with_operands}
use Rattle.mlir_reader.specs.Marked.{operation_marked}
use Rattle.mlir_reader.specs.Resolving.{resolve_operand}
use Rattle.mlir_operations.specs.Views.{operand_of, operation_of}
use Rattle.mlir_reader.specs.declared.draft.Draft.{Draft}
use Rattle.mlir_reader.specs.declared.draft.DraftOperation.{DraftOperation}
use Rattle.mlir_reader.proofs.Drafting.{waits_more}
use Rattle.mlir_reader.proofs.draft.Draft.wait.Goals as goal

pub returns : goal.returns
returns c =
    let old = c.args.self.now in
    let new : Draft = record { names = old.names; count = old.count; likely = old.likely; body = old.body; waiting = c.push_back.new.self; found = old.found } in
    let d : DraftOperation = record { operation = c.in_ok-operation.operation; operands = c.in_ok-operands.operands } in
    waits_more old new d (λ later. operation_marked later c.args.marks.now (operation_of c.args.text)) refl refl refl c.in_ok-push_back.ensures.items
    (λ later.
    ap (λ op. with_operands op (map (resolve_operand later) (map operand_of d.operands.items))) (c.in_ok-operation.ensures later)
    ∙ ap (λ os. with_operands (operation_marked later c.args.marks.now (operation_of c.args.text)) (map (resolve_operand later) (map operand_of os))) (c.in_ok-operands.ensures.ok ∙ c.as_slice.ensures))
