use Rattle.std.proofs.Common.{◌++◌, map, arith, refl, sym}
use Rattle.std.specs.Prelude.{[]}
use Rattle.ir_store.specs.Designs.{port_of}
use Rattle.export_verilog.specs.Written.{ports_named, ports_left}
use Rattle.export_verilog.proofs.text.Listed.{narrow_at, ports_step, ports_end}
use Rattle.export_verilog.proofs.ports.push_lines.Goals as goal

pub loop-i-preserved : goal.loop-i-preserved
loop-i-preserved c =
    ports_step port_of c.args.names.now c.args.ports.now c.loop-i.i c.index-names-i.result c.index-ports-i.result _ c.loop-i.out c.push_port.new.out
    (c.args.out.now ++ ports_left (ports_named c.args.names.now (map port_of c.args.ports.now)) [])
    c.requires.count (omega (arith, c.loop-i-test.true)) c.index-names-i.is c.index-ports-i.is refl c.loop-i.invariant
    (rw (sym c.line_end.ensures, sym c.as_bytes.ensures) c.in_ok-push_port.ensures)

pub push_port-requires : goal.push_port-requires
push_port-requires c = record {
  narrow = narrow_at port_of c.args.ports.now c.loop-i.i c.index-ports-i.result c.requires.narrow (omega (arith, c.loop-i-test.true)) c.index-ports-i.is;
}

pub returns : goal.returns
returns c =
    ports_end port_of c.args.names.now c.args.ports.now c.loop-i.i c.loop-i.out (c.args.out.now ++ ports_left (ports_named c.args.names.now (map port_of c.args.ports.now)) [])
    c.requires.count (omega (arith, c.loop-i-test.false)) c.loop-i.invariant
