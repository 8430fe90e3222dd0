use Rattle.std.proofs.Common.{◌≡◌, ◌<◌, ◌+◌, ◌^◌, map, length, ap, arith}
use Rattle.std.proofs.lemmas.List.{length-map}
use Rattle.sched_core.specs.State.{callees_of}
use Rattle.sched_core.proofs.Counting.{callees_of-map}
use Rattle.shared_schedule.proofs.Callers.{next-fits}
use Rattle.shared_schedule.proofs.making.first_slots.Goals as goal

pub overflow_add-next : goal.overflow_add-next
overflow_add-next c =
    let rows = c.args.callees.now in
    let size : length (map (λ row. row.items) rows) ≡ length rows = length-map rows (λ row. row.items) in
    let row = callees_of-map (λ v. v.items) rows c.loop-row.row-index c.row-item.result (omega arith) c.row-item.is in
    let long : c.len-next.result ≡ length (callees_of (map (λ row. row.items) rows) c.loop-row.row-index) =
    (let same : length (callees_of (map (λ row. row.items) rows) c.loop-row.row-index)
    ≡ length c.row-item.result.items = ap length row in omega (arith, c.len-next.ensures, c.row-item.result.ok.0)) in
    let fits : c.loop-row.next + c.len-next.result < 2 ^ 64 =
    next-fits (map (λ row. row.items) rows) c.loop-row.row-index c.loop-row.next c.len-next.result c.requires (omega arith) c.loop-row.invariant.next long in
    omega arith
