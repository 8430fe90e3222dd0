use Rattle.std.proofs.Common.{◌≡◌, min, map, take}
use Rattle.wiring.specs.Lists.{total}
use Rattle.ir_store.specs.Bodies.{ops_of}
use Rattle.ir_store.specs.Designs.{ports_in}
use Rattle.ir_store.specs.Numbered.{ops_by_position}
use Rattle.miter_blast.specs.ExportPrices.{export_op_price}
use Rattle.miter_blast.proofs.export_prices.export_price.Given as goal

abbrev pub invariant-loop-position : goal.invariant-loop-position
invariant-loop-position l =
    l.price ≡ min (total (map (export_op_price (ports_in l.body.ports.now) (ops_by_position (ops_of l.body.ops.now.body.now))) (take l.position (ops_by_position (ops_of l.body.ops.now.body.now))))) 18446744073709551615
