use Rattle.clause_learning.specs.Trail.{literals}
use Rattle.clause_learning.proofs.Scanning.{value_holds, none_holds}
use Rattle.clause_learning.proofs.trail.Trail.is_true.Goals as goal

pub returns-in-Some : goal.returns-in-Some
returns-in-Some c = value_holds (literals c.args.self.now.entries) c.args.literal c.in-Some.value c.in-Some.ensures

pub returns-in-None : goal.returns-in-None
returns-in-None c = none_holds (literals c.args.self.now.entries) c.args.literal c.in-None.ensures
