use Rattle.std.proofs.Common.{◌∙◌}
use Rattle.resolution_proof.proofs.Sets.{among_low, among_high}
use Rattle.clause_learning.proofs.Entries.{value_by_mark, none_by_mark, mark_read}
use Rattle.clause_learning.proofs.trail.Trail.value.Goals as goal

pub returns-in-Some : goal.returns-in-Some
returns-in-Some c =
    let among = rw (← c.self.view_is) at c.requires in
    let low = among_low _ c.args.literal among in
    let high = among_high _ c.args.literal among in
    let read = mark_read c.self.inside.marks.items c.args.literal.variable c.index.result.now low high c.index.ensures in
    rw (← c.self.view_is) (value_by_mark _ _ c.self.invariant.0 c.args.literal c.in-Some.mark low (read ∙ c.in-Some.is))

pub returns-in-None : goal.returns-in-None
returns-in-None c =
    let among = rw (← c.self.view_is) at c.requires in
    let low = among_low _ c.args.literal among in
    let high = among_high _ c.args.literal among in
    let read = mark_read c.self.inside.marks.items c.args.literal.variable c.index.result.now low high c.index.ensures in
    rw (← c.self.view_is) (none_by_mark _ _ c.self.invariant.0 c.args.literal (read ∙ c.in-None.is))
