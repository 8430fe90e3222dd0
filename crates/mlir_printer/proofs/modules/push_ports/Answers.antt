use Rattle.std.proofs.Common.{◌++◌, map, drop, arith}
use Rattle.ir_store.specs.Designs.{port_of}
use Rattle.mlir_printer.specs.Commas.{commas}
use Rattle.mlir_printer.specs.Modules.{port_bytes}
use Rattle.mlir_printer.specs.Texts.{ports_shown}
use Rattle.mlir_printer.specs.Views.{names_held}
use Rattle.mlir_printer.proofs.steps.Passing.{ports_step, ports_end}
use Rattle.mlir_printer.proofs.modules.push_ports.Goals as goal

pub loop-i-preserved : goal.loop-i-preserved
loop-i-preserved c = record {
  few = omega (arith, c.loop-i.invariant.few, c.port_names-first.ensures.few);
  bytes =
      ports_step port_of (names_held c.args.names.now) c.args.ports.now c.loop-i.i c.loop-i.first c.port_names-first.result c.index-ports-i.result c.loop-i.out c.push_comma.new.out
      c.push_port.new.out (c.args.out.now ++ commas port_bytes (ports_shown (names_held c.args.names.now) (map port_of c.args.ports.now)))
      (omega (arith, c.loop-i-test.true)) c.index-ports-i.is c.port_names-first.ensures.count c.loop-i.invariant.bytes c.in_ok-push_comma.ensures c.in_ok-push_port.ensures;
}

pub returns : goal.returns
returns c =
    ports_end port_of (drop c.loop-i.first (names_held c.args.names.now)) c.args.ports.now c.loop-i.i c.loop-i.i c.loop-i.out
    (c.args.out.now ++ commas port_bytes (ports_shown (names_held c.args.names.now) (map port_of c.args.ports.now)))
    (omega (arith, c.loop-i-test.false)) c.loop-i.invariant.bytes
