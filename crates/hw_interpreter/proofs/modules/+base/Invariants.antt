use Rattle.std.proofs.Common.{length}
use Rattle.hw_interpreter.proofs.modules.+base.Given as goal

abbrev pub decreases-base : goal.decreases-base
decreases-base l = length l.path.now
