use Rattle.std.proofs.Common.{refl, ◌+◌}
use Rattle.flat_module_gates.proofs.Tables.{variables_more}
use Rattle.flat_module_gates.proofs.widths.variables.Goals as goal

pub loop-before-preserved : goal.loop-before-preserved
loop-before-preserved c =
    variables_more c.args.start c.loop-before.before (c.loop-before.before + 1) c.loop-before.word.items c.push.new.self.items c.loop-before.auto.before refl c.loop-before.invariant c.in_ok-push.ensures.items
