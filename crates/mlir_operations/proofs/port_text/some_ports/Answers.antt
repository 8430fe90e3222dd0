-- Ports are gathered until no comma stands after one.
use Rattle.std.proofs.Common.{map, Vec, Global}
use Rattle.mlir_operations.specs.Views.{port_text_of}
use Rattle.mlir_operations.specs.declared.syntax.PortText.{PortText}
use Rattle.mlir_syntax.proofs.Lists.{fails, ends, goes_on}
use Rattle.mlir_operations.proofs.Ports.{is_port}
use Rattle.mlir_operations.proofs.port_text.some_ports.Goals as goal

pub returns-in-Err-clause-gives : goal.returns-in-Err-clause-gives
returns-in-Err-clause-gives c =
    fails {C = Vec PortText Global} (λ ports. map port_text_of ports.items) c.in-Err.fail c.port_in.new.reader c.port_in.new.reader (is_port c.args.form) c.loop-port.invariant c.in-Err.ensures.gives

pub returns-then-not-pass-clause-gives : goal.returns-then-not-pass-clause-gives
returns-then-not-pass-clause-gives c =
    ends c.in-Ok.port c.push.new.self.items c.port_in.new.reader c.pass.new.self c.pass.result (is_port c.args.form) c.loop-port.invariant
    c.in-Ok.ensures.gives c.in_ok-push-in-Ok.ensures.items c.pass.ensures.is c.pass.ensures.after c.if-not-pass.true

pub loop-port-preserved : goal.loop-port-preserved
loop-port-preserved c =
    goes_on c.in-Ok.port c.push.new.self.items c.port_in.new.reader c.pass.new.self c.pass.result (is_port c.args.form) c.loop-port.invariant
    c.in-Ok.ensures.gives c.in_ok-push-in-Ok.ensures.items c.pass.ensures.is c.pass.ensures.after c.if-not-pass.false c.in-Ok.ensures.shorter
    (c.pass.ensures.shorter c.if-not-pass.false)
