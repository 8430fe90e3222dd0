use Rattle.std.proofs.Common.{◌≡◌, ◌<◌, ◌^◌, ◌&&◌, ◌+◌, map, length, get_or, ap, sym, subst, ◌∙◌, arith}
use Rattle.std.specs.Prelude.{nat_lt, slice_index, ◌==◌}
use Rattle.std.proofs.lemmas.List.{length-map}
use Rattle.sched_core.specs.Sums.{one_if}
use Rattle.sched_core.specs.State.{callees_of}
use Rattle.sched_core.proofs.Counting.{callees_of-map, entry-lt}
use Rattle.shared_schedule.proofs.Callers.{caller-more, callers-all}
use Rattle.shared_schedule.proofs.making.callers.Goals as goal

pub push_row-requires-clause-within : goal.push_row-requires-clause-within
push_row-requires-clause-within c = λ i within.
    let rows = c.args.callees.now in
    let size : length (map (λ row. row.items) rows) ≡ length rows = length-map rows (λ row. row.items) in
    let row : callees_of (map (λ row. row.items) rows) c.loop-c.c ≡ c.as_slice.result.now = callees_of-map (λ v. v.items) rows c.loop-c.c c.index-callees-c.result (omega arith) c.index-callees-c.is ∙ sym c.as_slice.ensures.value in
    let entry : get_or c.as_slice.result.now i 0 < length (map (λ row. row.items) rows) = entry-lt (map (λ row. row.items) rows) c.loop-c.c i c.as_slice.result.now c.requires row within in
    let all : length c.loop-c.rows.items ≡ length rows = c.loop-c.invariant.size in
    omega arith

pub push_row-requires-clause-few : goal.push_row-requires-clause-few
push_row-requires-clause-few c =
    let rows = c.args.callees.now in
    let row : callees_of (map (λ row. row.items) rows) c.loop-c.c ≡ c.as_slice.result.now = callees_of-map (λ v. v.items) rows c.loop-c.c c.index-callees-c.result (omega arith) c.index-callees-c.is ∙ sym c.as_slice.ensures.value in
    subst (λ r. length r < 2 ^ 32) row (c.requires.entries c.loop-c.c)

pub loop-c-preserved : goal.loop-c-preserved
loop-c-preserved c =
    let rows = c.args.callees.now in
    let row : callees_of (map (λ row. row.items) rows) c.loop-c.c ≡ c.as_slice.result.now = callees_of-map (λ v. v.items) rows c.loop-c.c c.index-callees-c.result (omega arith) c.index-callees-c.is ∙ sym c.as_slice.ensures.value in
    record {
      size = c.in_ok-push_row.ensures.len ∙ c.loop-c.invariant.size;
      counts = λ m a b below. c.in_ok-push_row.ensures.counts m a b
          ∙ ap (λ n. n + one_if ((a == c.loop-c.c) && (nat_lt b (length c.as_slice.result.now) && (slice_index c.as_slice.result.now b == m)))) (c.loop-c.invariant.counts m a b below)
          ∙ caller-more (map (λ row. row.items) rows) c.as_slice.result.now m a b c.loop-c.c row;
    }

pub returns-clause-counts : goal.returns-clause-counts
returns-clause-counts c = λ m a b below.
    let rows = c.args.callees.now in
    let size : length (map (λ row. row.items) rows) ≡ length rows = length-map rows (λ row. row.items) in
    let end : c.loop-c.c ≡ length (map (λ row. row.items) rows) = omega arith in
    c.loop-c.invariant.counts m a b below ∙ ap one_if (callers-all (map (λ row. row.items) rows) c.loop-c.c m a b end)
