use Rattle.std.proofs.Common.{◌≡◌, ◌-◌, length, ap, ◌∙◌, arith}
use Rattle.std.proofs.lemmas.List.{length-map}
use Rattle.ir_store.specs.Bodies.{ids_of, op_id}
use Rattle.cse_pass.proofs.Sweeping.{length-body_ops}
use Rattle.cse_pass.proofs.Trimming.{id_at}
use Rattle.cse_pass.proofs.UnusedAggregates.{begin_aggregates, aggregate_gone, aggregate_stays, aggregates_swept}
use Rattle.cse_pass.proofs.unused_aggregates.trim_aggregate_sweep.Goals as goal

pub loop-left-init : goal.loop-left-init
loop-left-init c =
    let count : c.len-left.result ≡ length c.in_ok-ids.ids.items = omega (arith, c.len-left.ensures, c.in_ok-ids.ids.ok.0) in
    begin_aggregates c.args.body.now c.len-left.result c.requires (count ∙ ap length c.in_ok-ids.ensures ∙ length-map (ids_of c.args.body.now) op_id) (length-body_ops c.args.body.now)

pub index-requires : goal.index-requires
index-requires c =
    let count : length c.in_ok-ids.ids.items ≡ length (ids_of c.args.body.now) = ap length c.in_ok-ids.ensures ∙ length-map (ids_of c.args.body.now) op_id in
    omega (arith, count, c.loop-left.invariant.within)

pub loop-left-preserved-then-trim_aggregate : goal.loop-left-preserved-then-trim_aggregate
loop-left-preserved-then-trim_aggregate c =
    aggregate_gone c.args.body.now c.loop-left.body c.loop-left.left (c.loop-left.left - 1) c.loop-left.any c.loop-left.invariant (omega arith)
    c.trim_aggregate.new.body c.trim_aggregate.ensures.fit c.trim_aggregate.ensures.trims (c.trim_aggregate.ensures.fewer c.if-trim_aggregate.true)

pub loop-left-preserved : goal.loop-left-preserved
loop-left-preserved c =
    let count : length c.in_ok-ids.ids.items ≡ length (ids_of c.args.body.now) = ap length c.in_ok-ids.ensures ∙ length-map (ids_of c.args.body.now) op_id in
    aggregate_stays c.args.body.now c.loop-left.body c.loop-left.left (c.loop-left.left - 1) c.loop-left.any c.loop-left.invariant (omega arith)
    c.trim_aggregate.new.body c.trim_aggregate.ensures.fit c.trim_aggregate.ensures.trims c.index.result.now (c.trim_aggregate.ensures.ops c.if-trim_aggregate.false) (c.trim_aggregate.ensures.ids c.if-trim_aggregate.false)
    (λ none. id_at c.args.body.now (c.loop-left.left - 1) c.in_ok-ids.ids.items c.in_ok-ids.ensures (omega (arith, count, c.loop-left.invariant.within)) c.index.result.now c.index.ensures)
    (c.trim_aggregate.ensures.none c.if-trim_aggregate.false)

pub returns-clause-fewer : goal.returns-clause-fewer
returns-clause-fewer c = λ some. c.loop-left.invariant.fewer some

pub returns-clause-none : goal.returns-clause-none
returns-clause-none c = λ none. aggregates_swept c.args.body.now c.loop-left.body c.loop-left.left c.loop-left.any c.loop-left.invariant (omega arith) none
