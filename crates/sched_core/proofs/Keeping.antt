-- Each event that may come keeps a state sound.
use Rattle.sched_core.specs.declared.event.Event.{Event}
use Rattle.sched_core.specs.declared.event.Event.TheVariants.{Claim, Take, TakeEdge, PutDone, PutEdge, Report, Split, Join}
use Rattle.sched_core.specs.State.{State}
use Rattle.sched_core.specs.Events.{May, step}
use Rattle.sched_core.specs.Sound.{Sound}
use Rattle.sched_core.proofs.Moves.{take-sound, put_done-sound, join-sound}
use Rattle.sched_core.proofs.Edges.{take_edge-sound, put_edge-sound}
use Rattle.sched_core.proofs.Draws.{claim-sound, split-sound}
use Rattle.sched_core.proofs.Reports.{report-sound}

pub step-sound : (s : State) (e : Event) → Sound s → May s e → Sound (step s e)
step-sound s (Claim w) sound may = claim-sound s w sound may
step-sound s (Take w m) sound may = take-sound s w m sound may
step-sound s (TakeEdge w c i) sound may = take_edge-sound s w c i sound may
step-sound s (PutDone w m) sound may = put_done-sound s w m sound may
step-sound s (PutEdge w c i) sound may = put_edge-sound s w c i sound may
step-sound s (Report w c i) sound may = report-sound s w c i sound may
step-sound s Split sound may = split-sound s sound may
step-sound s (Join kept gone) sound may = join-sound s kept gone sound may
