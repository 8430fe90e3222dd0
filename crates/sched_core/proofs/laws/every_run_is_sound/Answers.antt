use Rattle.sched_core.specs.State.{first}
use Rattle.sched_core.proofs.Draws.{first-sound}
use Rattle.sched_core.proofs.RunLemmas.{after-sound, told, once, order, complete-after}
use Rattle.sched_core.proofs.laws.every_run_is_sound.Goals as goal

pub returns-clause-sound : goal.returns-clause-sound
returns-clause-sound c = λ callees es are allowed. after-sound (first callees) es (first-sound callees) allowed

pub returns-clause-once : goal.returns-clause-once
returns-clause-once c = λ callees es m are allowed. once callees es m allowed

pub returns-clause-told : goal.returns-clause-told
returns-clause-told c = λ callees es m are allowed. told callees es m allowed

pub returns-clause-order : goal.returns-clause-order
returns-clause-order c = λ callees before rest w m i are allowed edge. order callees before rest w m i allowed edge

pub returns-clause-complete : goal.returns-clause-complete
returns-clause-complete c = complete-after
