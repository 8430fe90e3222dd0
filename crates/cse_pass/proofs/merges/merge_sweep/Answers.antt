use Rattle.std.proofs.Common.{◌<◌, length, sym, subst, ◌∙◌, arith, add-one}
use Rattle.ir_store.specs.Bodies.{ids_of}
use Rattle.body_edits.specs.Views.{body_ops}
use Rattle.cse_pass.proofs.Following.{changes_then}
use Rattle.cse_pass.proofs.Sweeping.{Sweeping, sweep_merged, sweep_passed, swept, shorter, same_length}
use Rattle.cse_pass.proofs.Walking.{has_op, position_is, is_within, next_is, all_passed, few_ids}
use Rattle.cse_pass.proofs.merges.merge_sweep.Goals as goal

pub next_op-at-requires : goal.next_op-at-requires
next_op-at-requires c = has_op c.loop-at.body c.loop-at.position c.in-Some.op (sym c.in-Some.is ∙ c.loop-at.invariant.stands)

pub visit-requires-clause-live : goal.visit-requires-clause-live
visit-requires-clause-live c = has_op c.loop-at.body c.loop-at.position c.in-Some.op (sym c.in-Some.is ∙ c.loop-at.invariant.stands)

pub visit-requires-clause-position : goal.visit-requires-clause-position
visit-requires-clause-position c = position_is c.loop-at.body c.loop-at.position c.in-Some.op (sym c.in-Some.is ∙ c.loop-at.invariant.stands)

pub returns-in_err-visit-clause-changes : goal.returns-in_err-visit-clause-changes
returns-in_err-visit-clause-changes c =
    changes_then (body_ops c.args.body.now) (body_ops c.loop-at.body) (body_ops c.visit.new.body) c.loop-at.invariant.changes c.visit.ensures.changes

pub loop-at-preserved-then-branch : goal.loop-at-preserved-then-branch
loop-at-preserved-then-branch c =
    let stands = sym c.in-Some.is ∙ c.loop-at.invariant.stands in
    sweep_merged c.args.body.now c.loop-at.body c.visit.new.body c.loop-at.groups c.visit.new.groups c.loop-at.position c.loop-at.at c.loop-at.merged c.loop-at.invariant
    (is_within c.loop-at.body c.loop-at.position c.in-Some.op stands) c.visit.ensures.fit c.visit.ensures.changes c.next_op-at.result
    (next_is c.loop-at.body c.loop-at.position c.in-Some.op stands c.next_op-at.result c.next_op-at.ensures)
    (rw c.if-branch.true at c.in_ok-visit.ensures.visited)

pub loop-at-preserved : goal.loop-at-preserved
loop-at-preserved c =
    let stands = sym c.in-Some.is ∙ c.loop-at.invariant.stands in
    subst (λ n. Sweeping c.args.body.now c.visit.new.body c.visit.new.groups n c.next_op-at.result c.loop-at.merged) (sym (add-one c.loop-at.position))
    (sweep_passed c.args.body.now c.loop-at.body c.visit.new.body c.loop-at.groups c.visit.new.groups c.loop-at.position c.loop-at.at c.loop-at.merged c.loop-at.invariant
    (is_within c.loop-at.body c.loop-at.position c.in-Some.op stands) c.visit.ensures.fit c.visit.ensures.changes c.next_op-at.result
    (next_is c.loop-at.body c.loop-at.position c.in-Some.op stands c.next_op-at.result c.next_op-at.ensures)
    (rw c.if-branch.false at c.in_ok-visit.ensures.visited))

pub loop-at-smaller-then-branch : goal.loop-at-smaller-then-branch
loop-at-smaller-then-branch c =
    let stands = sym c.in-Some.is ∙ c.loop-at.invariant.stands in
    let less : c.loop-at.position < length (ids_of c.loop-at.body) = is_within c.loop-at.body c.loop-at.position c.in-Some.op stands in
    let visited = rw c.if-branch.true at c.in_ok-visit.ensures.visited in
    let size = shorter c.loop-at.body c.visit.new.body c.loop-at.position less visited.ids in
    omega (arith, less, size)

pub loop-at-smaller : goal.loop-at-smaller
loop-at-smaller c =
    let stands = sym c.in-Some.is ∙ c.loop-at.invariant.stands in
    let less : c.loop-at.position < length (ids_of c.loop-at.body) = is_within c.loop-at.body c.loop-at.position c.in-Some.op stands in
    let visited = rw c.if-branch.false at c.in_ok-visit.ensures.visited in
    let size = same_length c.loop-at.body c.visit.new.body visited.ops in
    omega (arith, less, size)

pub overflow_add-position : goal.overflow_add-position
overflow_add-position c =
    let stands = sym c.in-Some.is ∙ c.loop-at.invariant.stands in
    let less : c.loop-at.position < length (ids_of c.loop-at.body) = is_within c.loop-at.body c.loop-at.position c.in-Some.op stands in
    omega (arith, less, few_ids c.loop-at.body)

pub returns-clause-swept : goal.returns-clause-swept
returns-clause-swept c =
    swept c.args.body.now c.loop-at.body c.loop-at.groups c.loop-at.position c.loop-at.at c.loop-at.merged c.loop-at.invariant
    (all_passed c.loop-at.body c.loop-at.position c.loop-at.at c.loop-at.invariant.stands c.in_default.is)
