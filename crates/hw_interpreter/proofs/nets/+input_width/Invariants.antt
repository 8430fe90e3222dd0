use Rattle.std.proofs.Common.{length}
use Rattle.hw_interpreter.proofs.nets.+input_width.Given as goal

abbrev pub decreases-input_width : goal.decreases-input_width
decreases-input_width l = length l.ports.now
