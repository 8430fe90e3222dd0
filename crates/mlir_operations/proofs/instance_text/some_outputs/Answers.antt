-- The results of an instance are written as fields are.
use Rattle.mlir_operations.specs.ElementText.{output_text}
use Rattle.mlir_operations.proofs.instance_text.some_outputs.Goals as goal

pub returns-clause-gives : goal.returns-clause-gives
unfolding output_text
returns-clause-gives c = c.some_fields.ensures.gives
