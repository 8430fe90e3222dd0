use Rattle.std.proofs.lemmas.Grind.{common_steps}
use Rattle.std.proofs.lemmas.List.Edits.{map_over_more}
use Rattle.std.proofs.Common.{arith}
use Rattle.sched_core.specs.Table.{heir_after}
use Rattle.sched_core.proofs.sched.pass_on.Goals as goal

pub loop-i-preserved : goal.loop-i-preserved
loop-i-preserved c = grind (arith, common_steps, map_over_more (heir_after c.args.kept c.args.gone))
