use Rattle.std.proofs.Common.{length}
use Rattle.hw_interpreter.proofs.modules.+output_operands.Given as goal

abbrev pub decreases-output_operands : goal.decreases-output_operands
decreases-output_operands l = length l.body.now
