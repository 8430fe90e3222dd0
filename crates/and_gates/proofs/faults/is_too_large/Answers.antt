use Rattle.std.proofs.Common.{◌<◌, ap, ◌∙◌, nat_lt, arith}
use Rattle.ir_store.specs.Bodies.{ops_of}
use Rattle.ir_store.specs.Designs.{ports_in}
use Rattle.ir_store.specs.Numbered.{ops_by_position}
use Rattle.miter_blast.specs.ExportPrices.{export_price}
use Rattle.and_gates.specs.Faults.{variable_count}
use Rattle.and_gates.proofs.Limits.{above_first, not_first}
use Rattle.and_gates.proofs.faults.is_too_large.Goals as goal

pub returns-then-price-gt-MOST_GATES : goal.returns-then-price-gt-MOST_GATES
returns-then-price-gt-MOST_GATES c =
    let ps = ports_in c.args.module.now.ports in
    let os = ops_by_position (ops_of c.args.module.now.body) in
    above_first (export_price ps os) c.in_ok-price.price 268435456 18446744073709551615 (nat_lt 268435456 (variable_count ps os)) c.in_ok-price.ensures c.if-price-gt-MOST_GATES.true

pub returns : goal.returns
returns c =
    let ps = ports_in c.args.module.now.ports in
    let os = ops_by_position (ops_of c.args.module.now.body) in
    ap (λ n. nat_lt 268435456 n) (c.from-count.ensures ∙ c.in_ok-variable_count.ensures)
    ∙ not_first (export_price ps os) c.in_ok-price.price 268435456 18446744073709551615 (nat_lt 268435456 (variable_count ps os)) c.in_ok-price.ensures c.if-price-gt-MOST_GATES.false (let high : 268435456 < 18446744073709551615 = omega arith in high)
