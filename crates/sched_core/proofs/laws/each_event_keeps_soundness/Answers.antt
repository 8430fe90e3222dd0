use Rattle.std.proofs.Common.{[], ◌∷◌}
use Rattle.sched_core.proofs.Draws.{first-sound}
use Rattle.sched_core.proofs.Keeping.{step-sound}
use Rattle.sched_core.proofs.RunLemmas.{after-append, allowed-then}
use Rattle.sched_core.proofs.laws.each_event_keeps_soundness.Goals as goal

pub returns-clause-first : goal.returns-clause-first
returns-clause-first c = first-sound

pub returns-clause-each : goal.returns-clause-each
returns-clause-each c = step-sound

pub returns-clause-further : goal.returns-clause-further
returns-clause-further c = λ s es e allowed may. (allowed-then s es e allowed may, after-append s es (e ∷ []))
