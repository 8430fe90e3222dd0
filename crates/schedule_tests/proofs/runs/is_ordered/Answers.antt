use Rattle.std.proofs.Common.{◌≡◌, map, length, arith}
use Rattle.std.proofs.lemmas.List.{length-map}
use Rattle.sched_core.proofs.Falling.{AreCallees-falling}
use Rattle.schedule_tests.proofs.Ordered.{falls-end}
use Rattle.schedule_tests.proofs.runs.is_ordered.Goals as goal

pub returns : goal.returns
returns c = λ _.
    let rows = c.args.callees.now in
    let size : length (map (λ row. row.items) rows) ≡ length rows = length-map rows (λ row. row.items) in
    let end : length rows ≡ c.loop-m.m = omega arith in
    AreCallees-falling (map (λ row. row.items) rows) (c.loop-m.invariant (falls-end (λ row. row.items) rows c.loop-m.m c.loop-m.m end)) (omega arith)
