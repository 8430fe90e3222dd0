use Rattle.std.proofs.Common.{ℕ, ◌≡◌, ◌+◌, ◌-◌, ◌≤◌, subst, ◌∙◌, arith}
use Rattle.clause_learning.specs.Resolving.{IsAnalysis, HasPivotsFrom}
use Rattle.clause_learning.proofs.Resolution.{analysis_start, analysis_end}
use Rattle.clause_learning.proofs.resolving.resolve_level.Goals as goal

pub loop-position-init : goal.loop-position-init
loop-position-init c =
    let start = analysis_start c.args.trail.now.variables c.args.clauses.now c.args.trail.now.entries c.requires.sound c.len-position.ensures.apart c.args.conflict c.requires.conflict c.mark_conflict-count.new.seen c.mark_conflict-count.ensures.marks
    c.args.floor 1 c.mark_conflict-count.result c.requires.level c.mark_conflict-count.ensures.count (c.mark_conflict-count.ensures.len ∙ c.requires.seen) in
    let n = c.len-position.ensures.len in
    let below = c.requires.floor in
    (rw (c.len-position.ensures.len, c.in_ok-push.ensures.items, c.new-hints.ensures.items) start, omega (arith, n, below))

pub resolve_entry-requires-clause-analysis : goal.resolve_entry-requires-clause-analysis
resolve_entry-requires-clause-analysis c =
    let above = c.loop-position-test.true in
    let back : c.loop-position.position ≡ c.loop-position.position - 1 + 1 = omega (arith, above) in
    subst (λ (n : ℕ). IsAnalysis c.args.trail.now.variables c.args.clauses.now c.args.trail.now.entries c.args.floor 1 n c.loop-position.count c.loop-position.hints.items c.loop-position.seen) back c.loop-position.invariant.0

pub returns-clause-pivots : goal.returns-clause-pivots
returns-clause-pivots c =
    let low = c.loop-position.invariant.1 in
    let high = c.loop-position-test.false in
    let at : c.loop-position.position ≡ c.args.floor + 1 = omega (arith, low, high) in
    let a = subst (λ (n : ℕ). IsAnalysis c.args.trail.now.variables c.args.clauses.now c.args.trail.now.entries c.args.floor 1 n c.loop-position.count c.loop-position.hints.items c.loop-position.seen) at c.loop-position.invariant.0 in
    (analysis_end c.args.trail.now.variables c.args.clauses.now c.args.trail.now.entries c.args.floor c.loop-position.count c.loop-position.hints.items c.loop-position.seen a).1

pub returns-clause-count : goal.returns-clause-count
returns-clause-count c =
    let low = c.loop-position.invariant.1 in
    let high = c.loop-position-test.false in
    let at : c.loop-position.position ≡ c.args.floor + 1 = omega (arith, low, high) in
    let a = subst (λ (n : ℕ). IsAnalysis c.args.trail.now.variables c.args.clauses.now c.args.trail.now.entries c.args.floor 1 n c.loop-position.count c.loop-position.hints.items c.loop-position.seen) at c.loop-position.invariant.0 in
    (analysis_end c.args.trail.now.variables c.args.clauses.now c.args.trail.now.entries c.args.floor c.loop-position.count c.loop-position.hints.items c.loop-position.seen a).0
