-- What stands after the ports is read piece by piece; what the operations are is told beside them.
use Rattle.std.proofs.Common.{refl}
use Rattle.ir_store.specs.DictionaryViews.{entries_in}
use Rattle.mlir_lexer.specs.Tokens.{text_token}
use Rattle.mlir_reader.specs.Meanings.{meanings_of}
use Rattle.mlir_operations.specs.ModuleText.{body_text}
use Rattle.mlir_reader.specs.ModuleViews.{AreOperations, IsBodyText}
use Rattle.mlir_reader.proofs.BodyTexts.{passed_for, passed_held}
use Rattle.mlir_reader.proofs.body_text.body_text.Goals as goal

pub returns-in_err-dictionary-clause-gives : goal.returns-in_err-dictionary-clause-gives
unfolding body_text
returns-in_err-dictionary-clause-gives c =
    passed_for entries_in (IsBodyText (meanings_of c.args.names.now)) c.from_residual.result c.in_err-dictionary.field-0.0 c.header_attributes.new.reader _ _ _
    c.from_residual.ensures.1 c.in_err-dictionary.ensures.gives

pub returns-in_err-want-clause-gives : goal.returns-in_err-want-clause-gives
unfolding body_text
returns-in_err-want-clause-gives c =
    rw c.in_ok-dictionary.ensures.gives
    (passed_for text_token (IsBodyText (meanings_of c.args.names.now)) c.from_residual-in_err-want.result c.in_err-want.field-0.0 c.want.new.self _ _ _
    c.from_residual-in_err-want.ensures.1 c.in_err-want.ensures.gives)

pub returns-in_err-operations-clause-gives : goal.returns-in_err-operations-clause-gives
unfolding body_text
returns-in_err-operations-clause-gives c =
    rw (c.in_ok-dictionary.ensures.gives, c.in_ok-want.ensures.gives)
    (passed_held (AreOperations (meanings_of c.args.names.now)) (IsBodyText (meanings_of c.args.names.now)) c.from_residual-in_err-operations.result c.in_err-operations.field-0.0 c.operations_text.new.reader _ _ _
    c.from_residual-in_err-operations.ensures.1 c.in_err-operations.ensures.gives)

pub returns-in_err-close-clause-gives : goal.returns-in_err-close-clause-gives
unfolding body_text
returns-in_err-close-clause-gives c =
    rw (c.in_ok-dictionary.ensures.gives, c.in_ok-want.ensures.gives, c.in_ok-operations.ensures.gives.1)
    (passed_for text_token (IsBodyText (meanings_of c.args.names.now)) c.from_residual-in_err-close.result c.in_err-close.field-0.0 c.want-2.new.self _ _ _
    c.from_residual-in_err-close.ensures.1 c.in_err-close.ensures.gives)

pub returns-clause-gives : goal.returns-clause-gives
unfolding body_text
returns-clause-gives c =
    let read = c.in_ok-operations.ensures.gives in (
      record { dictionary = entries_in c.in_ok-dictionary.dictionary; operations = read.0; close = c.in_ok-close.close.location },
      rw (c.in_ok-dictionary.ensures.gives, c.in_ok-want.ensures.gives, read.1, c.in_ok-close.ensures.gives) refl,
      record { dictionary = refl; operations = read.2; close = refl },
    )
