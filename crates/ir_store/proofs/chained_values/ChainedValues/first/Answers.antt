use Rattle.std.proofs.Common.{length}
use Rattle.ir_store.specs.ChainedValues.{head_of}
use Rattle.std.proofs.Common.{refl}
use Rattle.ir_store.proofs.Seeking.{each_once}
use Rattle.ir_store.proofs.chained_values.ChainedValues.first.Goals as goal

pub returns-clause-each : goal.returns-clause-each
returns-clause-each c =
    λ cell. rw (← c.self.view_is) (each_once c.self.inside.values.items c.self.inside.chains c.self.invariant c.args.value (head_of (length c.self.inside.chains.chains) c.args.value) cell refl)
