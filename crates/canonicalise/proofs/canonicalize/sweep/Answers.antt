use Rattle.std.proofs.Common.{subst, sym, arith}
use Rattle.body_edits.specs.Views.{body_ops}
use Rattle.canonicalise.specs.Canonical.{table, Leads}
use Rattle.canonicalise.proofs.Skips.{skip}
use Rattle.canonicalise.proofs.Visiting.{begin, has_op, next_live, fit_same, same_ops, passes, passes_less, folds, swept, changed_less}
use Rattle.canonicalise.proofs.canonicalize.sweep.Goals as goal

pub loop-at-init : goal.loop-at-init
loop-at-init c = (begin c.args.body.now c.first_op-at.result c.requires.fit c.first_op-at.ensures, c.requires.marks)

pub next_op-next-requires : goal.next_op-next-requires
next_op-next-requires c =
    let to = skip c.args.body.now c.loop-at.body c.loop-at.marks c.loop-at.at c.in-Some.first c.loop-at.changed c.end_of-op.result c.loop-at.invariant c.in-Some.is c.end_of-op.ensures in
    has_op c.args.body.now c.loop-at.body c.end_of-op.result c.loop-at.changed to.visiting

pub after-second-requires : goal.after-second-requires
after-second-requires c =
    let to = skip c.args.body.now c.loop-at.body c.loop-at.marks c.loop-at.at c.in-Some.first c.loop-at.changed c.end_of-op.result c.loop-at.invariant c.in-Some.is c.end_of-op.ensures in
    next_live c.args.body.now c.loop-at.body c.end_of-op.result c.loop-at.changed to.visiting c.next_op-next.result c.next_op-next.ensures

pub visit-requires-clause-live : goal.visit-requires-clause-live
visit-requires-clause-live c =
    let to = skip c.args.body.now c.loop-at.body c.loop-at.marks c.loop-at.at c.in-Some.first c.loop-at.changed c.end_of-op.result c.loop-at.invariant c.in-Some.is c.end_of-op.ensures in
    has_op c.args.body.now c.loop-at.body c.end_of-op.result c.loop-at.changed to.visiting

pub returns-in_err-visit-clause-fit : goal.returns-in_err-visit-clause-fit
returns-in_err-visit-clause-fit c = fit_same c.loop-at.body c.visit.new.body c.loop-at.invariant.0.fit c.in_err-visit.ensures.kept

pub returns-in_err-visit-clause-leads : goal.returns-in_err-visit-clause-leads
returns-in_err-visit-clause-leads c =
    subst (Leads table (body_ops c.args.body.now)) (sym (same_ops c.loop-at.body c.visit.new.body c.in_err-visit.ensures.kept)) c.loop-at.invariant.0.leads

pub loop-at-smaller-then-branch : goal.loop-at-smaller-then-branch
loop-at-smaller-then-branch c =
    let tries = rw c.if-branch.true at c.in_ok-visit.ensures.tries in
    let to = skip c.args.body.now c.loop-at.body c.loop-at.marks c.loop-at.at c.in-Some.first c.loop-at.changed c.end_of-op.result c.loop-at.invariant c.in-Some.is c.end_of-op.ensures in
    let less = to.less in
    let after = folds c.args.body.now c.loop-at.body c.end_of-op.result c.loop-at.changed to.visiting c.visit.new.body c.next_op-next.result c.after-second.result
    c.due-at.result tries c.next_op-next.ensures c.after-second.ensures c.due-at.ensures.stays c.due-at.ensures.goes in
    rw c.in-Some.is (omega (arith, after.1, after.2, less))

pub loop-at-preserved-then-branch : goal.loop-at-preserved-then-branch
loop-at-preserved-then-branch c =
    let tries = rw c.if-branch.true at c.in_ok-visit.ensures.tries in
    let to = skip c.args.body.now c.loop-at.body c.loop-at.marks c.loop-at.at c.in-Some.first c.loop-at.changed c.end_of-op.result c.loop-at.invariant c.in-Some.is c.end_of-op.ensures in (
      (folds c.args.body.now c.loop-at.body c.end_of-op.result c.loop-at.changed to.visiting c.visit.new.body c.next_op-next.result c.after-second.result
          c.due-at.result tries c.next_op-next.ensures c.after-second.ensures c.due-at.ensures.stays c.due-at.ensures.goes).0,
      c.in_ok-visit.ensures.settled,
    )

pub loop-at-smaller : goal.loop-at-smaller
loop-at-smaller c =
    let tries = rw c.if-branch.false at c.in_ok-visit.ensures.tries in
    let to = skip c.args.body.now c.loop-at.body c.loop-at.marks c.loop-at.at c.in-Some.first c.loop-at.changed c.end_of-op.result c.loop-at.invariant c.in-Some.is c.end_of-op.ensures in
    let less = to.less in
    let passed = passes_less c.args.body.now c.loop-at.body c.end_of-op.result c.loop-at.changed to.visiting c.visit.new.body c.next_op-next.result tries.1 c.next_op-next.ensures in
    rw c.in-Some.is (omega (arith, passed, less))

pub loop-at-preserved : goal.loop-at-preserved
loop-at-preserved c =
    let tries = rw c.if-branch.false at c.in_ok-visit.ensures.tries in
    let to = skip c.args.body.now c.loop-at.body c.loop-at.marks c.loop-at.at c.in-Some.first c.loop-at.changed c.end_of-op.result c.loop-at.invariant c.in-Some.is c.end_of-op.ensures in
    (passes c.args.body.now c.loop-at.body c.end_of-op.result c.loop-at.changed to.visiting c.visit.new.body c.next_op-next.result tries.0 tries.1 c.next_op-next.ensures, c.in_ok-visit.ensures.settled)

pub returns-clause-swept : goal.returns-clause-swept
returns-clause-swept c = swept c.args.body.now c.loop-at.body c.loop-at.at c.loop-at.changed c.loop-at.invariant.0 c.in_default.is

pub returns-clause-smaller : goal.returns-clause-smaller
returns-clause-smaller c = changed_less c.args.body.now c.loop-at.body c.loop-at.at c.loop-at.changed c.loop-at.invariant.0
