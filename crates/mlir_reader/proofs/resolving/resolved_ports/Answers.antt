use Rattle.std.proofs.Common.{length, ap, arith, map}
use Rattle.mlir_reader.specs.Resolving.{ports_from, port_definitions, with_definitions}
use Rattle.mlir_operations.specs.Views.{port_text_of}
use Rattle.mlir_reader.specs.Meanings.{meanings_of}
use Rattle.mlir_reader.proofs.BodySteps.{port_step, port_is, port_means, turned}
use Rattle.std.specs.Prelude.{is_some}
use Rattle.mlir_reader.proofs.resolving.resolved_ports.Goals as goal

pub loop-port-preserved : goal.loop-port-preserved
loop-port-preserved c =
    let l = c.loop-port in
    let t = c.in-Some.port in
    let e = meanings_of l.names in
    let f = meanings_of c.define_port.new.names in
    let next = c.next.new.self.rest.items in
    let steps = c.in-Some.ensures.steps.0 in
    record {
      ports = port_step l.list.items c.push.new.self.items (record { name = t.name; out = c.is_none.result; ty = t.ty; again = c.in_ok-again.again }) t e f l.position l.port-iterator.rest.items next
          (ports_from (meanings_of c.args.names.now) 0 (map port_text_of c.args.ports.items))
          c.in_ok-push.ensures.items (port_is t e f l.position (map port_text_of next) c.is_none.result c.in_ok-again.again
          (turned (is_some t.value) c.is_none.result c.is_none.ensures) c.in_ok-again.ensures.again c.in_ok-again.ensures.means) steps l.invariant.ports;
      means = port_means e f l.position t l.port-iterator.rest.items next (with_definitions (meanings_of c.args.names.now) (port_definitions 0 (map port_text_of c.args.ports.items))) c.in_ok-again.ensures.means steps l.invariant.means;
      count = let n = ap length steps in omega (arith, n, l.invariant.count);
    }
