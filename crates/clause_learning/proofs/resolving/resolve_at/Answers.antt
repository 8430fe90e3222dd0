use Rattle.std.proofs.Common.{◌≡◌, ◌+◌, ◌-◌, arith}
use Rattle.clause_learning.proofs.Marking.{unmark_count}
use Rattle.clause_learning.proofs.resolving.resolve_at.Goals as goal

pub overflow_sub-count : goal.overflow_sub-count
overflow_sub-count c =
    let less = unmark_count c.args.trail.now.variables c.args.seen.now c.args.trail.now.entries c.args.floor c.args.position c.entry-pivot.ensures.apart c.requires.seen c.requires.position c.requires.floor c.requires.marked in
    omega (arith, less, c.requires.count)

pub mark_clause-requires-clause-count : goal.mark_clause-requires-clause-count
mark_clause-requires-clause-count c =
    let less = unmark_count c.args.trail.now.variables c.args.seen.now c.args.trail.now.entries c.args.floor c.args.position c.entry-pivot.ensures.apart c.requires.seen c.requires.position c.requires.floor c.requires.marked in
    rw (c.unmark.ensures, c.entry-pivot.ensures.entry) (omega (arith, less, c.requires.count))
