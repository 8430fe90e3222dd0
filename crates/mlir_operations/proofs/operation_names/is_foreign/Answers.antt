-- A name with a dot is foreign where its dialect is none of those known.
use Rattle.std.proofs.Common.{ap, ◌∙◌}
use Rattle.mlir_syntax.specs.AttributeText.{is_among}
use Rattle.mlir_operations.specs.OperationText.{known_dialects}
use Rattle.mlir_operations.proofs.Classes.{foreign_at}
use Rattle.mlir_operations.proofs.operation_names.is_foreign.Goals as goal

pub returns-then-not-run_of-name : goal.returns-then-not-run_of-name
returns-then-not-run_of-name c =
    foreign_at c.args.name.now c.run_of.result c.is_among.result c.run_of.ensures.exact c.if-not-run_of-name.true
    (c.is_among.ensures ∙ ap (λ d. is_among d known_dialects) c.dialect.ensures)
