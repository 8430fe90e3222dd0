use Rattle.std.proofs.Common.{◌∙◌}
use Rattle.clause_learning.proofs.Entries.{mention_by_mark, mark_read}
use Rattle.clause_learning.proofs.trail.Trail.is_assigned.Goals as goal

pub returns : goal.returns
returns c =
    let high = rw (← c.self.view_is) at c.requires.among in
    let read = mark_read c.self.inside.marks.items c.args.variable c.index.result.now c.requires.positive high c.index.ensures in
    rw (← c.self.view_is) (c.is_some.ensures ∙ mention_by_mark _ _ c.self.invariant.0 c.args.variable c.index.result.now c.requires.positive read)
