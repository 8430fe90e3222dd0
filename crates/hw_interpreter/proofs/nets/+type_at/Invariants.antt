use Rattle.std.proofs.Common.{length}
use Rattle.hw_interpreter.proofs.nets.+type_at.Given as goal

abbrev pub decreases-type_at : goal.decreases-type_at
decreases-type_at l = length l.types.now
