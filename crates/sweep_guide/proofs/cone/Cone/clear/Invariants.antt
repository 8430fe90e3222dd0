use Rattle.std.proofs.Common.{length}
use Rattle.sweep_guide.proofs.cone.Cone.clear.Given as goal

abbrev pub decreases-loop-variable : goal.decreases-loop-variable
decreases-loop-variable l = length l.self.variables.items
