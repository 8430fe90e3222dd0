use Rattle.std.proofs.Common.{◌∷◌, [], ap, ◌++◌, ◌∙◌, map, codes, arith}
use Rattle.ir_store.specs.Designs.{port_of}
use Rattle.export_verilog.specs.Written.{ports_named, ports_left}
use Rattle.export_verilog.proofs.text.Rests.{three_parts}
use Rattle.export_verilog.proofs.text.Listed.{no_ports, listed_ports}
use Rattle.export_verilog.proofs.ports.push_ports.Goals as goal

pub returns-in_ok-push_bytes : goal.returns-in_ok-push_bytes
returns-in_ok-push_bytes c =
    c.in_ok-push_bytes.ensures.ok ∙ ap (λ l. c.args.out.now ++ l) (no_ports port_of c.args.names.now c.args.ports.now c.requires.count c.if-ports-eq0.true)

pub returns-in_ok-push_bytes-3 : goal.returns-in_ok-push_bytes-3
returns-in_ok-push_bytes-3 c =
    three_parts c.args.out.now c.push_bytes-else-ports-eq0.new.self c.push_lines.new.out c.push_bytes-else-ports-eq0-2.new.self
    (codes "(\n") (ports_left (ports_named c.args.names.now (map port_of c.args.ports.now)) []) (41 ∷ 59 ∷ 10 ∷ [])
    c.in_ok-push_bytes-2.ensures.ok c.in_ok-push_lines.ensures c.in_ok-push_bytes-3.ensures.ok
    ∙ ap (λ l. c.args.out.now ++ l) (listed_ports port_of c.args.names.now c.args.ports.now c.requires.count (omega (arith, c.if-ports-eq0.false)))
