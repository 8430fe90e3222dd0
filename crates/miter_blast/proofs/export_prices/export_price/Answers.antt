use Rattle.std.proofs.Common.{ap, min, map, ◌∙◌, arith}
use Rattle.std.proofs.lemmas.List.{take_all}
use Rattle.wiring.specs.Lists.{total}
use Rattle.ir_store.specs.Bodies.{ops_of}
use Rattle.ir_store.specs.Designs.{ports_in}
use Rattle.ir_store.specs.Numbered.{ops_by_position}
use Rattle.body_index.specs.OpIndexes.{op_view}
use Rattle.miter_blast.specs.ExportPrices.{export_op_price, export_price}
use Rattle.miter_blast.proofs.CappedSums.{total_more}
use Rattle.miter_blast.proofs.export_prices.export_price.Goals as goal

pub loop-position-preserved : goal.loop-position-preserved
loop-position-preserved c =
    let b = c.in_ok-ops.ops.body.now in
    let ps = ports_in c.args.module.now.ports in
    let os = ops_by_position (ops_of b) in
    total_more (export_op_price ps os) os c.loop-position.position (op_view b c.op_at.result) c.loop-position.price c.in_ok-export_op_price.field-0 c.saturating_add-price.result 18446744073709551615
    c.op_at.ensures c.loop-position.invariant c.in_ok-export_op_price.ensures c.saturating_add-price.ensures

pub returns : goal.returns
returns c =
    let b = c.in_ok-ops.ops.body.now in
    let ps = ports_in c.args.module.now.ports in
    let os = ops_by_position (ops_of b) in
    let all = take_all c.loop-position.position os (omega (arith, c.count-position-end.ensures, c.loop-position-test.false)) in
    c.loop-position.invariant ∙ ap (λ xs. min (total (map (export_op_price ps os) xs)) 18446744073709551615) all
    ∙ ap (λ x. min (export_price ps (ops_by_position x)) 18446744073709551615) (ap ops_of c.in_ok-ops.ensures)
