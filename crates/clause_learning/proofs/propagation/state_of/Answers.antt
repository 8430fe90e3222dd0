use Rattle.std.proofs.Common.{◌+◌, take, get_or, ap, ◌∙◌, sym, subst, false, Some, Option}
use Rattle.resolution_proof.specs.declared.literal.Literal.{Literal}
use Rattle.clause_learning.specs.Trail.{literals}
use Rattle.clause_learning.specs.Propagation.{IsScan}
use Rattle.clause_learning.proofs.Scanning.{step_two, step_open, scan_false, value_false}
use Rattle.clause_learning.proofs.propagation.state_of.Goals as goal
use Rattle.clause_learning.proofs.propagation.state_of.Goals.{in-Some-false, in-None+else-is_some}

pub returns-then-is_some : goal.returns-then-is_some
returns-then-is_some c = step_two _ _ c.loop-literal.literal-index (record { variable = 0; positive = false }) c.loop-literal.single c.loop-literal-test.true c.loop-literal.invariant c.if-is_some.ensures c.in-None.ensures

pub loop-literal-preserved : goal.loop-literal-preserved
loop-literal-preserved c =
    let family : Option Literal → Type 0 = λ o. IsScan (literals c.args.trail.now.entries) (take (c.loop-literal.literal-index + 1) c.args.clause.now) o in
    elim c.match-value.branch as (λ _. family c.match-value.single) [
      | in-Some-false w ↦ subst family (sym w.single-is) (scan_false (literals c.args.trail.now.entries) c.args.clause.now c.loop-literal.literal-index
          (record { variable = 0; positive = false }) c.loop-literal.single c.loop-literal-test.true c.loop-literal.invariant
          (value_false (literals c.args.trail.now.entries) (get_or c.args.clause.now c.loop-literal.literal-index (record { variable = 0; positive = false }))
          (ap Some (sym w.in-Some-false.field-0-test) ∙ w.in-Some-false.ensures)))
      | in-None+else-is_some w ↦ subst family (sym w.single-is) (step_open (literals c.args.trail.now.entries) c.args.clause.now c.loop-literal.literal-index
          (record { variable = 0; positive = false }) c.loop-literal.single c.loop-literal-test.true c.loop-literal.invariant w.if-is_some.ensures w.in-None.ensures)
    ]
