use Rattle.std.proofs.Common.{length}
use Rattle.hw_interpreter.proofs.modules.+instance_at.Given as goal

abbrev pub decreases-instance_at : goal.decreases-instance_at
decreases-instance_at l = length l.body.now
