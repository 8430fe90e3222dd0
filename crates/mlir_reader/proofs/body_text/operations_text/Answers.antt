-- Operations are put into the draft up to the closing brace.
use Rattle.std.proofs.Common.{sym, subst, ◌∙◌, [], ◌∷◌, ◌++◌, refl, ap, Err, List}
use Rattle.mlir_reader.specs.Drafts.{Drafts}
use Rattle.mlir_reader.specs.ModuleViews.{AreOperations}
use Rattle.mlir_reader.specs.Meanings.{meanings_of}
use Rattle.mlir_reader.specs.declared.names.Names.{Names}
use Rattle.mlir_operations.specs.OperationText.{OperationText}
use Rattle.mlir_operations.specs.Views.{operation_of}
use Rattle.mlir_reader.proofs.Bodies.{stands, refused_at, output_at, goes_on_at, fine_close, fine_last}
use Rattle.mlir_reader.proofs.BodyTexts.{refused_for, ends_already, ends_here, all_read}
use Rattle.mlir_reader.proofs.body_text.operations_text.Goals.{else-is_last-via-then-is_last+else-not-is_next, else-is_last-via-else-is_last, then-ends, else-ends}
use Rattle.mlir_reader.proofs.body_text.operations_text.Goals as goal

-- what is read of operations is what they are
abbrev same : List OperationText → List OperationText
same os = os

pub loop-reader-init : goal.loop-reader-init
loop-reader-init c = record {
  got = [];
  standing = stands (λ (o : OperationText). o) c.args.reader.now;
  drafts = subst (λ (n : Names). Drafts (meanings_of n) [] c.new-draft.result) c.replace-given.ensures.value c.new-draft.ensures;
  ends = refl;
}

pub returns-in-Err-clause-gives : goal.returns-in-Err-clause-gives
returns-in-Err-clause-gives c =
    refused_for same (AreOperations (meanings_of c.args.names.now)) c.in-Err.fail c.operation_text.new.reader _
    (refused_at same c.in-Err.fail c.operation_text.new.reader c.operation_text.new.reader
    c.loop-reader.invariant.standing (sym c.is_next.ensures ∙ c.loop-reader-test.true) c.in-Err.ensures.gives)

pub returns-then-not-is_next-clause-gives : goal.returns-then-not-is_next-clause-gives
returns-then-not-is_next-clause-gives c =
    output_at (operation_of c.in-Ok.operation) c.operation_text.new.reader c.loop-reader.invariant.standing (sym c.is_next.ensures ∙ c.loop-reader-test.true)
    c.in-Ok.ensures.gives (sym c.is_last.ensures ∙ c.if-is_last.true) (sym c.is_next-then-is_last.ensures ∙ c.if-not-is_next.true)
    ∙ ap Err (sym c.unexpected_token.ensures)

pub loop-reader-preserved : goal.loop-reader-preserved
loop-reader-preserved c =
    let l = c.loop-reader in
    let o = operation_of c.in-Ok.operation in
    record {
      got = l.invariant.got ++ o ∷ [];
      standing =
          goes_on_at o (l.invariant.got ++ o ∷ []) c.operation_text.new.reader l.invariant.standing (sym c.is_next.ensures ∙ c.loop-reader-test.true)
          c.in-Ok.ensures.gives refl
          (elim c.else-is_last.branch [
            | else-is_last-via-then-is_last+else-not-is_next w ↦ fine_close _ _ (sym w.is_next-then-is_last.ensures ∙ w.if-not-is_next.false)
            | else-is_last-via-else-is_last w ↦ fine_last _ _ (sym c.is_last.ensures ∙ w.if-is_last.false)
          ]) c.in-Ok.ensures.shorter;
      drafts = c.in_ok-add.ensures (meanings_of c.args.names.now) l.invariant.got l.invariant.drafts;
      ends = elim c.if-ends.branch [
        | then-ends w ↦ ends_already l.invariant.got o l.ends c.if-ends.ends l.invariant.ends w.if-ends.true (w.ends-is ∙ w.if-ends.true)
        | else-ends w ↦ ends_here l.invariant.got o l.ends c.if-ends.ends l.invariant.ends w.if-ends.false (w.ends-is ∙ w.is_last-ends.ensures)
      ];
    }

pub returns-clause-gives : goal.returns-clause-gives
returns-clause-gives c =
    let l = c.loop-reader in
    all_read (record { body = c.in_ok-body.body; ends = l.ends }) l.invariant.standing (sym c.is_next.ensures ∙ c.loop-reader-test.false)
    (c.in_ok-body.ensures (meanings_of c.args.names.now) l.invariant.got l.invariant.drafts) l.invariant.ends
