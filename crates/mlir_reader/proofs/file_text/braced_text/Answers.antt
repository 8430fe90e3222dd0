-- What closes a file stands after its modules.
use Rattle.std.proofs.Common.{length}
use Rattle.ir_store.specs.Designs.{design_of}
use Rattle.mlir_lexer.specs.declared.token.TokenKind.TheVariants as kind
use Rattle.mlir_operations.specs.ModuleText.{modules_text}
use Rattle.mlir_reader.specs.ModuleViews.{braced_text, closing_text}
use Rattle.mlir_syntax.specs.Stream.{is_next}
use Rattle.mlir_reader.proofs.Files.{closed_at}
use Rattle.mlir_reader.proofs.file_text.braced_text.Goals as goal

pub returns-in-Ok : goal.returns-in-Ok
unfolding braced_text closing_text
returns-in-Ok c =
    closed_at (design_of c.args.design.now) (design_of c.modules_text.new.design)
    (modules_text (is_next kind.RightBrace) (length c.args.reader.now) c.args.reader.now) c.modules_text.new.reader c.closing_text.result
    c.closing_text.new.reader c.in-Ok.ensures.gives c.closing_text.ensures
