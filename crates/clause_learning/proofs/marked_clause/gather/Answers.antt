use Rattle.std.proofs.Common.{◌<◌, ◌-◌, length, ◌∙◌, ap, arith}
use Rattle.clause_learning.specs.Marked.{count_marked}
use Rattle.clause_learning.proofs.Listing.{count_marked-off}
use Rattle.clause_learning.proofs.Gathering.{gathering_start, gathering_done, gathering_skip, gathering_step}
use Rattle.clause_learning.proofs.marked_clause.gather.Goals as goal

pub loop-variable-init : goal.loop-variable-init
loop-variable-init c = rw c.new-literals.ensures.items (gathering_start c.args.seen.now c.args.trail.now.entries)

pub loop-variable-smaller-in_default-place : goal.loop-variable-smaller-in_default-place
loop-variable-smaller-in_default-place c =
    let off = count_marked-off c.loop-variable.seen (c.in-Some.variable - 1) c.in-Some.ensures.among.2 in
    let less : count_marked c.take.new.self < count_marked c.loop-variable.seen = rw c.in-Some.ensures.off (omega (arith, off)) in
    less

pub loop-variable-preserved-in_default-place : goal.loop-variable-preserved-in_default-place
loop-variable-preserved-in_default-place c =
    rw c.in-Some.ensures.off (gathering_skip c.args.trail.now.variables c.args.seen.now c.loop-variable.seen c.args.trail.now.entries c.loop-variable.literals.items c.loop-variable.start c.requires.apart c.requires.seen
    c.loop-variable.invariant c.in-Some.variable c.in-Some.ensures.among.0 c.in-Some.ensures.among.1 c.in-Some.ensures.among.2 c.in_default-place.ensures.none)

pub loop-variable-smaller : goal.loop-variable-smaller
loop-variable-smaller c =
    let off = count_marked-off c.loop-variable.seen (c.in-Some.variable - 1) c.in-Some.ensures.among.2 in
    let less : count_marked c.take.new.self < count_marked c.loop-variable.seen = rw c.in-Some.ensures.off (omega (arith, off)) in
    less

pub loop-variable-preserved : goal.loop-variable-preserved
loop-variable-preserved c =
    rw (c.in-Some.ensures.off, c.in_ok-push.ensures.items, c.negation.ensures, c.entry.ensures.entry)
    (gathering_step c.args.trail.now.variables c.args.seen.now c.loop-variable.seen c.args.trail.now.entries c.loop-variable.literals.items c.loop-variable.start c.requires.apart c.requires.seen
    c.loop-variable.invariant c.in-Some.variable c.in-Some.ensures.among.0 c.in-Some.ensures.among.1 c.in-Some.ensures.among.2
    c.in-Some-place.place c.later-start.result c.in-Some-place.ensures.some.0 c.in-Some-place.ensures.some.1 c.later-start.ensures.start c.later-start.ensures.place c.later-start.ensures.which)

pub returns : goal.returns
returns c = record {
  gathers = gathering_done c.args.trail.now.variables c.args.seen.now c.loop-variable.seen c.args.trail.now.entries c.loop-variable.literals.items c.loop-variable.start c.requires.apart c.loop-variable.invariant
      c.in_default.ensures.none;
  len = ap length c.in_default.ensures.kept ∙ c.loop-variable.invariant.len;
}
