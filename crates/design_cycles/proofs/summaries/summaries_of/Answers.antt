use Rattle.std.proofs.Common.{ap}
use Rattle.ir_store.specs.Designs.{modules_of}
use Rattle.design_cycles.proofs.Known.{node_called, callees_known, all_known, step_skips, step_sums}
use Rattle.design_cycles.proofs.Sizing.{node_within}
use Rattle.design_cycles.proofs.summaries.summaries_of.Goals as goal
use Rattle.design_cycles.proofs.summaries.summaries_of.Goals.{then-called-number+in_ok-summary, else-called-number}

pub bounds-called-number : goal.bounds-called-number
bounds-called-number c =
    node_called (modules_of c.args.design.now) c.requires.distinct c.args.order.now c.args.called.now c.requires.whole c.requires.called c.loop-number.number-index
    (node_within (modules_of c.args.design.now) 0 c.args.order.now c.loop-number.number-index c.requires.whole c.loop-number-test.true)

pub summary_of-requires-clause-inner : goal.summary_of-requires-clause-inner
summary_of-requires-clause-inner c =
    callees_known (modules_of c.args.design.now) c.requires.distinct c.args.order.now c.args.called.now c.requires.whole c.requires.called c.loop-number.summaries.items c.as_slice.result.now
    c.loop-number.number-index c.loop-number-test.true
    (node_within (modules_of c.args.design.now) 0 c.args.order.now c.loop-number.number-index c.requires.whole c.loop-number-test.true) c.as_slice.ensures.value c.loop-number.invariant.1

pub loop-number-preserved : goal.loop-number-preserved
loop-number-preserved c =
    elim c.if-called-number.branch [
      | then-called-number+in_ok-summary w ↦
          step_sums (modules_of c.args.design.now) c.requires.distinct c.args.order.now c.args.called.now c.requires.whole c.requires.called c.loop-number.summaries.items c.loop-number.number-index
          c.loop-number-test.true (node_within (modules_of c.args.design.now) 0 c.args.order.now c.loop-number.number-index c.requires.whole c.loop-number-test.true) c.loop-number.invariant
          c.if-called-number.summaries.items w.in_ok-summary.summary (ap (λ v. v.items) w.summaries-is) w.in_ok-summary.ensures
      | else-called-number w ↦
          step_skips (modules_of c.args.design.now) c.requires.distinct c.args.order.now c.args.called.now c.requires.whole c.requires.called c.loop-number.summaries.items c.loop-number.number-index
          c.loop-number-test.true (node_within (modules_of c.args.design.now) 0 c.args.order.now c.loop-number.number-index c.requires.whole c.loop-number-test.true) c.loop-number.invariant
          c.if-called-number.summaries.items w.if-called-number.false (ap (λ v. v.items) w.summaries-is)
    ]

pub returns : goal.returns
returns c =
    all_known (modules_of c.args.design.now) c.requires.distinct c.args.order.now c.args.called.now c.requires.whole c.requires.called c.loop-number.summaries.items c.loop-number.number-index
    c.loop-number-test.false c.loop-number.invariant.1
