use Rattle.std.proofs.Common.{length}
use Rattle.hw_interpreter.proofs.joins.+input_count.Given as goal

abbrev pub decreases-input_count : goal.decreases-input_count
decreases-input_count l = length l.ports.now
