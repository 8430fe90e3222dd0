use Rattle.std.proofs.Common.{length, arith}
use Rattle.design_cycles.proofs.Called.{calls_none, calls_more, calls_end}
use Rattle.design_cycles.proofs.calls.called_modules.Goals as goal

pub loop-list-preserved : goal.loop-list-preserved
loop-list-preserved c =
    calls_more c.args.calls.now c.loop-list.marks.items c.mark_all.new.marks c.loop-list.marks.len c.loop-list.marks.ok.0 (cc) c.loop-list.list-index c.list-item.result c.as_slice.result.now
    c.deref_mut.result.now c.loop-list.waiting.items c.mark_all.new.waiting.items c.loop-list-test.true c.list-item.is c.as_slice.ensures.value c.deref_mut.ensures.value c.loop-list.invariant
    c.in_ok-mark_all.ensures

pub returns : goal.returns
returns c = calls_end c.args.calls.now c.loop-list.marks.items c.loop-list.list-index c.loop-list-test.false c.loop-list.invariant

pub loop-list-init : goal.loop-list-init
loop-list-init c =
    calls_none c.args.calls.now (length c.args.calls.now) c.in_ok-marks.marks.items (omega (arith, c.in_ok-marks.ensures.len, c.in_ok-marks.marks.ok.0)) (c.in_ok-marks.ensures.items_if_clones_equal (λ y e. e))
