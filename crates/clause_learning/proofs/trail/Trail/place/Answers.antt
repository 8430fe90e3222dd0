use Rattle.std.proofs.Common.{◌∙◌, ap}
use Rattle.resolution_proof.specs.declared.literal.Literal.{Literal}
use Rattle.clause_learning.proofs.Entries.{holds_of_mark, free_by_mark, mark_read}
use Rattle.clause_learning.proofs.trail.Trail.place.Goals as goal

pub returns-in-Some-clause-some : goal.returns-in-Some-clause-some
returns-in-Some-clause-some c =
    let high = rw (← c.self.view_is) at c.requires.among in
    let read = mark_read c.self.inside.marks.items c.args.variable c.index.result.now c.requires.positive high c.index.ensures in
    let at = holds_of_mark _ _ c.self.invariant.0 c.args.variable c.in-Some.mark c.requires.positive (read ∙ c.in-Some.is) in
    rw (← c.self.view_is) (at.0, ap (λ (l : Literal). l.variable) at.1)

pub returns-in-None-clause-none : goal.returns-in-None-clause-none
returns-in-None-clause-none c =
    let high = rw (← c.self.view_is) at c.requires.among in
    let read = mark_read c.self.inside.marks.items c.args.variable c.index.result.now c.requires.positive high c.index.ensures in
    rw (← c.self.view_is) (free_by_mark _ _ c.self.invariant.0 c.args.variable (read ∙ c.in-None.is))
