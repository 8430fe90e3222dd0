use Rattle.std.proofs.Common.{◌≡◌, ◌≤◌, length, min, take, subst}
use Rattle.hw_model.specs.Weight.{leaf_count}
use Rattle.design_cycles.proofs.Sizing.{port_types, ports_more, ports_all}
use Rattle.design_cycles.proofs.size.port_leaves.Goals as goal

pub loop-port-preserved : goal.loop-port-preserved
loop-port-preserved c =
    ports_more c.deref-port-items.result.now c.loop-port.port-index c.port-item.result c.loop-port.sum c.leaf_count.result c.saturating_add-sum.result 18446744073709551615
    c.loop-port-test.true c.port-item.is c.loop-port.invariant c.leaf_count.ensures c.saturating_add-sum.ensures

pub returns : goal.returns
returns c =
    ports_all c.args.list.now.ports.items c.loop-port.port-index c.loop-port.sum 18446744073709551615
    (subst (λ xs. length xs ≤ c.loop-port.port-index) c.deref-port-items.ensures.value c.loop-port-test.false)
    (subst (λ xs. c.loop-port.sum ≡ min (leaf_count (port_types (take c.loop-port.port-index xs))) 18446744073709551615) c.deref-port-items.ensures.value c.loop-port.invariant)
