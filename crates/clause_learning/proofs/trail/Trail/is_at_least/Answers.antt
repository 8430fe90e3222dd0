use Rattle.std.proofs.Common.{◌∙◌}
use Rattle.clause_learning.proofs.Entries.{after_by_mark, not_after_by_mark, mark_read}
use Rattle.clause_learning.proofs.trail.Trail.is_at_least.Goals as goal

pub returns-in-Some-clause-after : goal.returns-in-Some-clause-after
returns-in-Some-clause-after c =
    let high = rw (← c.self.view_is) at c.requires.among in
    let read = mark_read c.self.inside.marks.items c.args.variable c.index.result.now c.requires.positive high c.index.ensures in
    rw (← c.self.view_is) (after_by_mark _ _ c.self.invariant.0 c.args.variable c.in-Some.mark c.args.position c.requires.positive (read ∙ c.in-Some.is))

pub returns-in-None-clause-after : goal.returns-in-None-clause-after
returns-in-None-clause-after c =
    let high = rw (← c.self.view_is) at c.requires.among in
    let read = mark_read c.self.inside.marks.items c.args.variable c.index.result.now c.requires.positive high c.index.ensures in
    rw (← c.self.view_is) (not_after_by_mark _ _ c.self.invariant.0 c.args.variable c.args.position (read ∙ c.in-None.is))
