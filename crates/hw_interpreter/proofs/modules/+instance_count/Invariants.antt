use Rattle.std.proofs.Common.{length}
use Rattle.hw_interpreter.proofs.modules.+instance_count.Given as goal

abbrev pub decreases-instance_count : goal.decreases-instance_count
decreases-instance_count l = length l.body.now
