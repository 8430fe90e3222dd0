use Rattle.std.proofs.Common.{length}
use Rattle.hw_interpreter.proofs.modules.+module_at.Given as goal

abbrev pub decreases-module_at : goal.decreases-module_at
decreases-module_at l = length l.path.now
