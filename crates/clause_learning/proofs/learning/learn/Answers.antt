use Rattle.std.proofs.Common.{◌∙◌}
use Rattle.clause_learning.proofs.LearntClauses.{learnt, none_is}
use Rattle.clause_learning.proofs.learning.learn.Goals as goal

pub from_distinct-requires : goal.from_distinct-requires
from_distinct-requires c = c.in_ok-literals.ensures.finished.once

pub returns : goal.returns
returns c =
    let search_learns = learnt c.args.trail.now.variables c.args.clauses.now c.args.trail.now.entries c.requires.sound c.in_ok-literals.ensures.apart c.in_ok-hints.hints.items c.resolve.new.seen c.in_ok-hints.ensures.resolving
    c.args.floor c.in_ok-literals.field-0.start c.decision_from-position.result c.in_ok-literals.field-0.literals.items c.in_ok-literals.ensures.finished c.in_ok-hints.ensures.count c.requires.floor
    c.decision_from-position.ensures.start c.decision_from-position.ensures.last (none_is _ c.decision_from-position.ensures.decision) c.decision_from-position.ensures.before in
    record { learnt = rw (c.from_distinct.ensures, c.from_vec.ensures) search_learns; len = c.in_ok-literals.ensures.len ∙ c.in_ok-hints.ensures.len }
