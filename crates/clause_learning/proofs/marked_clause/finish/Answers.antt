use Rattle.std.proofs.Common.{◌<◌, ◌≤◌, ◌-◌, Bool, List, false, length, set, ◌∙◌, ap, subst, arith}
use Rattle.clause_learning.specs.declared.trail.Entry.{Entry}
use Rattle.clause_learning.specs.Gathering.{Gathers}
use Rattle.clause_learning.proofs.Gathering.{tip_above, finished}
use Rattle.clause_learning.proofs.marked_clause.finish.Goals as goal

pub overflow_sub-after : goal.overflow_sub-after
overflow_sub-after c =
    let n = c.len.ensures.len in
    let up = tip_above c.args.seen.now c.args.trail.now.entries c.args.floor c.position_after_marked-after.result
    (λ k low l. c.position_after_marked-after.ensures.above k low (omega (arith, l, n))) c.requires.count in
    omega (arith, up)

pub returns-clause-finished : goal.returns-clause-finished
returns-clause-finished c =
    let es = c.args.trail.now.entries in
    let after = c.position_after_marked-after.result in
    let n = c.len.ensures.len in
    let last = c.position_after_marked-after.ensures.last in
    let up = tip_above c.args.seen.now es c.args.floor after (λ k low l. c.position_after_marked-after.ensures.above k low (omega (arith, l, n))) c.requires.count in
    let tip_low : c.args.floor ≤ after - 1 = omega (arith, up) in
    let tip_in : after - 1 < length es = omega (arith, up, last, n) in
    let marked = c.position_after_marked-after.ensures.marked (omega (arith, up)) in
    let off = c.unmark.ensures ∙ ap (λ (e : Entry). set c.args.seen.now (e.literal.variable - 1) false) c.entry.ensures.entry in
    let g = subst (λ (bs : List Bool). Gathers bs es c.in_ok-literals.field-0.literals.items c.in_ok-literals.field-0.start) off c.in_ok-literals.ensures.gathers in
    rw (c.in_ok-push.ensures.items, c.negation.ensures, c.entry.ensures.entry)
    (finished c.args.trail.now.variables c.args.seen.now es c.args.floor (after - 1) c.in_ok-literals.field-0.literals.items c.in_ok-literals.field-0.start c.len.ensures.apart c.requires.seen c.requires.count tip_low tip_in marked g)
