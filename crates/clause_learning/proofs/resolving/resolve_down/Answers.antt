use Rattle.std.proofs.Common.{ℕ, ◌≡◌, ◌+◌, ◌-◌, subst, ◌∙◌, arith}
use Rattle.clause_learning.specs.Resolving.{IsAnalysis}
use Rattle.clause_learning.proofs.Resolution.{analysis_start, position_above}
use Rattle.clause_learning.proofs.Marking.{count_between}
use Rattle.clause_learning.proofs.Regularity.{pivots_above}
use Rattle.clause_learning.proofs.resolving.resolve_down.Goals as goal

pub loop-count-init : goal.loop-count-init
loop-count-init c =
    let start = analysis_start c.args.trail.now.variables c.args.clauses.now c.args.trail.now.entries c.requires.sound c.len-position.ensures.apart c.args.conflict c.requires.conflict c.mark_conflict-count.new.seen c.mark_conflict-count.ensures.marks
    c.args.level.floor c.args.level.keep c.mark_conflict-count.result c.requires.level c.mark_conflict-count.ensures.count (c.mark_conflict-count.ensures.len ∙ c.requires.seen) in
    rw (c.len-position.ensures.len, c.in_ok-push.ensures.items, c.new-hints.ensures.items) start

pub overflow_sub-position : goal.overflow_sub-position
overflow_sub-position c =
    let above = position_above _ _ _ _ _ _ _ _ _ c.loop-count.invariant c.loop-count-test.true in
    omega (arith, above)

pub resolve_entry-requires-clause-floor : goal.resolve_entry-requires-clause-floor
resolve_entry-requires-clause-floor c =
    let above = position_above _ _ _ _ _ _ _ _ _ c.loop-count.invariant c.loop-count-test.true in
    omega (arith, above)

pub loop-count-smaller : goal.loop-count-smaller
loop-count-smaller c =
    let above = position_above _ _ _ _ _ _ _ _ _ c.loop-count.invariant c.loop-count-test.true in
    omega (arith, above)

pub resolve_entry-requires-clause-analysis : goal.resolve_entry-requires-clause-analysis
resolve_entry-requires-clause-analysis c =
    let above = position_above _ _ _ _ _ _ _ _ _ c.loop-count.invariant c.loop-count-test.true in
    let back : c.loop-count.position ≡ c.loop-count.position - 1 + 1 = omega (arith, above) in
    subst (λ (n : ℕ). IsAnalysis c.args.trail.now.variables c.args.clauses.now c.args.trail.now.entries c.args.level.floor c.args.level.keep n c.loop-count.count c.loop-count.hints.items c.loop-count.seen) back c.loop-count.invariant

pub returns-clause-pivots : goal.returns-clause-pivots
returns-clause-pivots c some =
    let a = c.loop-count.invariant in
    let bound = count_between c.loop-count.seen c.args.trail.now.entries c.args.level.floor c.loop-count.position a.none in
    let counted = a.counted in
    let kept = a.kept in
    pivots_above c.args.trail.now.entries c.args.level.floor c.loop-count.position c.loop-count.hints.items (omega (arith, bound, counted, kept, some)) a.pivots
