use Rattle.std.proofs.Common.{◌≡◌, ◌+◌, ◌-◌, ◌≤◌, true, drop, set, length, ap, ◌∙◌, sym, arith}
use Rattle.std.proofs.lemmas.List.{length-drop}
use Rattle.clause_learning.specs.Learning.{count_seen}
use Rattle.clause_learning.proofs.Marking.{apart_once, once_drop, within_drop, count_seen-set_on, count_seen-set_off, count_seen-le}
use Rattle.clause_learning.proofs.resolving.mark.Goals as goal

one_more : (c : goal.Then-is_at_least) → count_seen (set c.args.seen.now (c.args.variable - 1) true) (drop c.args.floor c.args.trail.now.entries) ≡ c.args.count + 1
one_more c =
    let es = c.args.trail.now.entries in
    let tidy = apart_once c.args.trail.now.variables es c.is_at_least.ensures.apart in
    let high : c.args.variable ≤ length c.args.seen.now = omega (arith, c.requires.among, c.requires.seen) in
    count_seen-set_on c.args.trail.now.variables c.args.seen.now c.args.variable (drop c.args.floor es) c.requires.positive high (sym c.is_marked.ensures ∙ c.if-is_marked.false)
    (within_drop c.args.trail.now.variables c.args.floor es tidy.1) (once_drop c.args.floor es tidy.0) (sym c.if-is_at_least.ensures.after)
    ∙ ap (λ (n : _). n + 1) (sym c.requires.count)

pub overflow_add-result : goal.overflow_add-result
overflow_add-result c =
    let more = one_more c in
    let bound = count_seen-le (set c.args.seen.now (c.args.variable - 1) true) (drop c.args.floor c.args.trail.now.entries) in
    let n = length-drop c.args.floor c.args.trail.now.entries in
    let small = c.is_at_least.ensures.small in
    omega (arith, more, bound, n, small)

pub returns-then-is_at_least-clause-count : goal.returns-then-is_at_least-clause-count
returns-then-is_at_least-clause-count c = rw c.mark.ensures (sym (one_more c))

pub returns-else-is_at_least-clause-count : goal.returns-else-is_at_least-clause-count
returns-else-is_at_least-clause-count c =
    let es = c.args.trail.now.entries in
    let tidy = apart_once c.args.trail.now.variables es c.is_at_least.ensures.apart in
    rw c.mark.ensures (c.requires.count ∙ sym (count_seen-set_off c.args.trail.now.variables c.args.seen.now c.args.variable true (drop c.args.floor es) c.requires.positive
    (within_drop c.args.trail.now.variables c.args.floor es tidy.1) (sym c.if-is_at_least.ensures.after)))
