use Rattle.canonicalise.proofs.Losing.{loses_one}
use Rattle.canonicalise.proofs.marks.Marks.mark.Goals as goal

pub returns-clause-loses : goal.returns-clause-loses
returns-clause-loses c =
    loses_one c.args.self.now c.unsettle.new.self c.break_at.new.self c.args.op c.break_at.ensures.breaks c.break_at.ensures.none c.unsettle.ensures.runs c.unsettle.ensures.others
