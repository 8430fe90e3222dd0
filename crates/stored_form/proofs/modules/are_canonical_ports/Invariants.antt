use Rattle.std.proofs.Common.{take, map}
use Rattle.ir_store.specs.Designs.{port_of}
use Rattle.stored_form.specs.Bytes.{Each}
use Rattle.stored_form.specs.Canonical.{IsCanonicalPort}
use Rattle.stored_form.proofs.modules.are_canonical_ports.Given as goal

abbrev pub invariant-loop-port : goal.invariant-loop-port
invariant-loop-port l = Each IsCanonicalPort (map port_of (take l.port-index l.ports))
