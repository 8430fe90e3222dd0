use Rattle.sched_core.specs.Views.{table_of}
use Rattle.sched_core.proofs.StageWrites.{take-writes}
use Rattle.sched_core.proofs.Openings.{through}
use Rattle.sched_core.proofs.sched.Sched.take.Goals as goal

pub invariant_of-self : goal.invariant_of-self
invariant_of-self c = (through c.self.view_is c.requires (take-writes (table_of c.self.inside) c.args.w c.args.m c.self.invariant)).0

pub returns : goal.returns
returns c = (through c.self.view_is c.requires (take-writes (table_of c.self.inside) c.args.w c.args.m c.self.invariant)).1
