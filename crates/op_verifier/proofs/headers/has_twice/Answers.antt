use Rattle.std.proofs.Common.{sym, ◌∙◌}
use Rattle.op_verifier.proofs.Names.{seen_again, seen_first}
use Rattle.op_verifier.proofs.headers.has_twice.Goals as goal

pub returns-then-contains : goal.returns-then-contains
returns-then-contains c =
    seen_again c.args.ports.now c.loop-port.port-index c.port-item.result c.loop-port.seen.keys c.as_bytes.result.now c.loop-port-test.true c.port-item.is
    c.as_bytes.ensures (sym c.contains.ensures ∙ c.if-contains.true) c.loop-port.invariant

pub loop-port-preserved : goal.loop-port-preserved
loop-port-preserved c =
    seen_first c.args.ports.now c.loop-port.port-index c.port-item.result c.loop-port.seen.keys c.insert.new.self.keys c.as_bytes.result.now c.as_bytes-in-loop-port.result
    c.loop-port-test.true c.port-item.is c.as_bytes.ensures c.as_bytes-in-loop-port.ensures (sym c.contains.ensures ∙ c.if-contains.false) c.in_ok-insert.ensures.keys c.loop-port.invariant
