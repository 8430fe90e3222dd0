use Rattle.std.proofs.Common.{◌≡◌, ℕ, ◌+◌, List, [], ◌∷◌, ◌++◌, length, map, drop, cond, sym, ap, ◌∙◌, arith}
use Rattle.std.specs.Prelude.{◌==◌}
use Rattle.std.proofs.lemmas.List.{length-map}
use Rattle.sched_core.specs.State.{callees_of, leaves_from}
use Rattle.sched_core.proofs.Counting.{callees_of-map, leaves-more}
use Rattle.sched_core.proofs.making.leaf_modules.Goals as goal

pub loop-m-preserved : goal.loop-m-preserved
loop-m-preserved c =
    let rows = c.args.callees.now in
    let callees : List (List ℕ) = map (λ row. row.items) rows in
    let m : ℕ = c.loop-m.m in
    let size : length callees ≡ length rows = length-map rows (λ row. row.items) in
    let row : callees_of callees m ≡ c.index-callees-m.result.items = callees_of-map (λ v. v.items) rows m c.index-callees-m.result (omega arith) c.index-callees-m.is in
    let leaf : c.is_empty.result ≡ (length (callees_of callees m) == 0) = c.is_empty.ensures ∙ ap (λ n. n == 0) (c.index-callees-m.result.ok.0 ∙ ap length (sym row)) in
    let pushed : c.push_if.new.numbers.items ≡ c.loop-m.modules.items ++ cond c.is_empty.result (m ∷ []) [] = c.in_ok-push_if.ensures {u = tt} in
    ap (λ xs. xs ++ leaves_from (m + 1) (drop (m + 1) callees)) pushed
    ∙ leaves-more callees c.loop-m.modules.items m c.is_empty.result (omega arith) leaf c.loop-m.invariant
