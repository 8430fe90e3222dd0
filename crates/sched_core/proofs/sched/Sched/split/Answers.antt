use Rattle.sched_core.specs.Views.{table_of}
use Rattle.sched_core.proofs.WorkerWrites.{split-writes}
use Rattle.sched_core.proofs.Openings.{through}
use Rattle.sched_core.proofs.sched.Sched.split.Goals as goal

pub invariant_of-self : goal.invariant_of-self
invariant_of-self c = (through c.self.view_is c.requires (split-writes (table_of c.self.inside) c.self.invariant)).0

pub returns : goal.returns
returns c = (through c.self.view_is c.requires (split-writes (table_of c.self.inside) c.self.invariant)).1
