use Rattle.ir_store.specs.Designs.{port_of}
use Rattle.stored_form.specs.Canonical.{IsCanonicalPort}
use Rattle.stored_form.proofs.Lists.{not_each}
use Rattle.stored_form.proofs.modules.are_canonical_ports.Goals as goal

pub returns-then-not-is_canonical_port : goal.returns-then-not-is_canonical_port
returns-then-not-is_canonical_port c =
    not_each IsCanonicalPort port_of c.args.ports.now c.loop-port.port-index c.port-item.result c.is_canonical_port.result c.loop-port-test.true c.port-item.is c.is_canonical_port.ensures
    c.if-not-is_canonical_port.true
