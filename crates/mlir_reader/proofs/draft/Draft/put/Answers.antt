-- An operation that need not wait is that of its text, whatever is read further.
use Rattle.std.proofs.Common.{map, refl, ap, sym, subst, ◌∙◌}
use Rattle.std.specs.Prelude.{Option, IfSome}
use Rattle.std.specs.VecDeque.{deque_len}
use Rattle.std.proofs.lemmas.Bool.{eqb-true}
use Rattle.ir_store.specs.Numbered.{ref_by}
use Rattle.mlir_reader.specs.Held.{AreSettled, with_operands}
use Rattle.mlir_reader.specs.Marked.{operation_marked}
use Rattle.mlir_reader.specs.Meanings.{meanings_of, op_of}
use Rattle.mlir_operations.specs.Views.{operand_of, operation_of}
use Rattle.mlir_reader.specs.declared.draft.Draft.{Draft}
use Rattle.mlir_reader.proofs.Drafting.{puts_more}
use Rattle.mlir_reader.proofs.draft.Draft.put.Goals as goal
use Rattle.std.proofs.lemmas.List.{nil_from_length}

pub returns-in_ok-put_in-in-Some : goal.returns-in_ok-put_in-in-Some
returns-in_ok-put_in-in-Some c =
    let old = c.args.self.now in
    let new : Draft = record { names = old.names; count = old.count; likely = old.likely; body = c.put_in.new.body; waiting = old.waiting; found = old.found } in
    let refs = map (ref_by (λ i. i)) c.in-Some.operands.items in
    let settled : AreSettled (meanings_of old.names) (map operand_of c.args.text.gathered.operands.items) refs =
    subst (λ os. AreSettled (meanings_of old.names) (map operand_of os) refs) c.as_slice.ensures
    (subst (λ (found : Option _). IfSome found (λ values. AreSettled (meanings_of old.names) (map operand_of c.as_slice.result.now) (map (ref_by (λ i. i)) values.items))) c.in-Some.is c.in_ok-operands.ensures) in
    puts_more old new (op_of c.in_ok-operation-in-Some.operation) (λ later. operation_marked later c.args.marks.now (operation_of c.args.text)) refl refl
    c.in_ok-put_in-in-Some.ensures.ops c.in_ok-put_in-in-Some.ensures.numbered refl (nil_from_length old.waiting.items (sym old.waiting.ok.0 ∙ eqb-true (deque_len old.waiting) 0 (sym c.is_empty.ensures ∙ c.if-not-is_empty.false)))
    (λ later k.
    c.in_ok-operation-in-Some.ensures later
    ∙ ap (with_operands (operation_marked later c.args.marks.now (operation_of c.args.text))) (settled later k))
