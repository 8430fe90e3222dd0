use Rattle.std.proofs.Common.{◌≡◌, ℕ, ◌+◌, ◌<◌, ◌^◌, List, length, map, get_or, sym, ap, ◌∙◌, arith}
use Rattle.std.specs.Vec.{with_items}
use Rattle.std.proofs.lemmas.List.{length-map, with_items_is}
use Rattle.sched_core.specs.Sums.{sum_below}
use Rattle.sched_core.specs.State.{callees_of}
use Rattle.sched_core.specs.Counts.{times_in}
use Rattle.sched_core.proofs.Counting.{callees_of-map, entry-lt, uses-room, uses-more}
use Rattle.sched_core.proofs.making.uses.Goals as goal

pub count_row-requires-clause-within : goal.count_row-requires-clause-within
count_row-requires-clause-within c = λ i within.
    let rows = c.args.callees.now in
    let callees : List (List ℕ) = map (λ row. row.items) rows in
    let size : length callees ≡ length rows = length-map rows (λ row. row.items) in
    let row : callees_of callees c.loop-row.row-index ≡ c.as_slice.result.now =
    callees_of-map (λ v. v.items) rows c.loop-row.row-index c.row-item.result (omega arith) c.row-item.is ∙ sym c.as_slice.ensures.value in
    let entry : get_or c.as_slice.result.now i 0 < length callees = entry-lt callees c.loop-row.row-index i c.as_slice.result.now c.requires row within in
    let all : length c.deref_mut.result.now ≡ length rows = ap length c.deref_mut.ensures.value ∙ c.loop-row.invariant.size in
    omega arith

pub count_row-requires-clause-room : goal.count_row-requires-clause-room
count_row-requires-clause-room c = λ m.
    let rows = c.args.callees.now in
    let callees : List (List ℕ) = map (λ row. row.items) rows in
    let size : length callees ≡ length rows = length-map rows (λ row. row.items) in
    let row : callees_of callees c.loop-row.row-index ≡ c.as_slice.result.now =
    callees_of-map (λ v. v.items) rows c.loop-row.row-index c.row-item.result (omega arith) c.row-item.is ∙ sym c.as_slice.ensures.value in
    let room : get_or c.loop-row.uses.items m 0 + length (callees_of callees c.loop-row.row-index) < 2 ^ 64 =
    uses-room callees c.loop-row.uses.items c.loop-row.row-index c.requires (omega arith) (c.loop-row.invariant.size ∙ sym size)
    (λ k below. c.loop-row.invariant.counts k (omega arith)) m in
    let same : get_or c.deref_mut.result.now m 0 ≡ get_or c.loop-row.uses.items m 0 = ap (λ xs. get_or xs m 0) c.deref_mut.ensures.value in
    let long : length (callees_of callees c.loop-row.row-index) ≡ length c.as_slice.result.now = ap length row in
    omega arith

pub loop-row-preserved : goal.loop-row-preserved
loop-row-preserved c =
    let rows = c.args.callees.now in
    let callees : List (List ℕ) = map (λ row. row.items) rows in
    let size : length callees ≡ length rows = length-map rows (λ row. row.items) in
    let row : callees_of callees c.loop-row.row-index ≡ c.as_slice.result.now =
    callees_of-map (λ v. v.items) rows c.loop-row.row-index c.row-item.result (omega arith) c.row-item.is ∙ sym c.as_slice.ensures.value in
    let before : c.deref_mut.result.now ≡ c.loop-row.uses.items = c.deref_mut.ensures.value in
    let same : (with_items c.loop-row.uses c.count_row.new.uses).items ≡ c.count_row.new.uses = with_items_is c.loop-row.uses c.count_row.new.uses (omega arith) in
    record {
      size = ap length same ∙ (let long : length c.count_row.new.uses ≡ length rows = omega arith in long);
      counts = λ m within.
          let more : get_or c.count_row.new.uses m 0 ≡ get_or c.loop-row.uses.items m 0 + times_in c.as_slice.result.now m =
          c.count_row.ensures m (omega arith) ∙ ap (λ xs. get_or xs m 0 + times_in c.as_slice.result.now m) before in
          ap (λ xs. get_or xs m 0) same
          ∙ uses-more callees c.loop-row.row-index m (get_or c.loop-row.uses.items m 0) (get_or c.count_row.new.uses m 0) c.as_slice.result.now row
          (c.loop-row.invariant.counts m within) more;
    }

pub returns-clause-counts : goal.returns-clause-counts
returns-clause-counts c = λ m within.
    let rows = c.args.callees.now in
    let callees : List (List ℕ) = map (λ row. row.items) rows in
    let size : length callees ≡ length rows = length-map rows (λ row. row.items) in
    let end : c.loop-row.row-index ≡ length callees = omega arith in
    c.loop-row.invariant.counts m within ∙ ap (λ n. sum_below n (λ i. times_in (callees_of callees i) m)) end
