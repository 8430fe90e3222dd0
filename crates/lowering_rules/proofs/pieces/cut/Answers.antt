use Rattle.lowering_rules.proofs.Cutting.{cutting_stops}
use Rattle.lowering_rules.proofs.pieces.cut.Goals as goal

pub returns-then-left-eq0 : goal.returns-then-left-eq0
returns-then-left-eq0 c = cutting_stops c.args.before c.args.size c.loop-first.pieces.items c.loop-first.rest c.loop-first.left c.if-left-eq0.true c.loop-first.invariant
