use Rattle.std.proofs.Common.{◌≡◌, ◌-◌, length, ap, ◌∙◌, arith}
use Rattle.std.proofs.lemmas.List.{length-map}
use Rattle.ir_store.specs.Bodies.{ids_of, op_id}
use Rattle.cse_pass.proofs.Trimming.{begin_trim, visited_there, trimmed_one, trimmed_none, trim_swept}
use Rattle.cse_pass.proofs.trims.trim_sweep.Goals as goal

pub loop-left-init : goal.loop-left-init
loop-left-init c =
    let count : c.len-left.result ≡ length c.in_ok-ids.ids.items = omega (arith, c.len-left.ensures, c.in_ok-ids.ids.ok.0) in
    begin_trim c.args.body.now c.in_ok-ids.ids.items c.len-left.result c.requires c.in_ok-ids.ensures count

pub index-requires : goal.index-requires
index-requires c =
    let count : length c.in_ok-ids.ids.items ≡ length (ids_of c.args.body.now) = ap length c.in_ok-ids.ensures ∙ length-map (ids_of c.args.body.now) op_id in
    omega (arith, count, c.loop-left.invariant.within)

pub trim_at-requires-clause-live : goal.trim_at-requires-clause-live
trim_at-requires-clause-live c =
    let count : length c.in_ok-ids.ids.items ≡ length (ids_of c.args.body.now) = ap length c.in_ok-ids.ensures ∙ length-map (ids_of c.args.body.now) op_id in
    visited_there c.args.body.now c.loop-left.body c.loop-left.left (c.loop-left.left - 1) c.loop-left.erased c.loop-left.invariant c.in_ok-ids.ids.items c.in_ok-ids.ensures
    (omega (arith, count, c.loop-left.invariant.within)) (omega arith) c.index.result.now c.index.ensures

pub loop-left-preserved-then-trim_at : goal.loop-left-preserved-then-trim_at
loop-left-preserved-then-trim_at c =
    let count : length c.in_ok-ids.ids.items ≡ length (ids_of c.args.body.now) = ap length c.in_ok-ids.ensures ∙ length-map (ids_of c.args.body.now) op_id in
    trimmed_one c.args.body.now c.loop-left.body c.loop-left.left (c.loop-left.left - 1) c.loop-left.erased c.loop-left.invariant c.in_ok-ids.ids.items c.in_ok-ids.ensures
    (omega (arith, count, c.loop-left.invariant.within)) (omega arith) c.index.result.now c.index.ensures
    c.trim_at.new.body c.trim_at.ensures.fit c.trim_at.result c.trim_at.ensures.ops c.trim_at.ensures.ids c.trim_at.ensures.erased c.if-trim_at.true

pub loop-left-preserved : goal.loop-left-preserved
loop-left-preserved c =
    let count : length c.in_ok-ids.ids.items ≡ length (ids_of c.args.body.now) = ap length c.in_ok-ids.ensures ∙ length-map (ids_of c.args.body.now) op_id in
    trimmed_none c.args.body.now c.loop-left.body c.loop-left.left (c.loop-left.left - 1) c.loop-left.erased c.loop-left.invariant c.in_ok-ids.ids.items c.in_ok-ids.ensures
    (omega (arith, count, c.loop-left.invariant.within)) (omega arith) c.index.result.now c.index.ensures
    c.trim_at.new.body c.trim_at.ensures.fit c.trim_at.result c.trim_at.ensures.ops c.trim_at.ensures.ids c.trim_at.ensures.erased c.if-trim_at.false

pub returns-clause-swept : goal.returns-clause-swept
returns-clause-swept c = trim_swept c.args.body.now c.loop-left.body c.loop-left.left c.loop-left.erased c.loop-left.invariant (omega arith)
