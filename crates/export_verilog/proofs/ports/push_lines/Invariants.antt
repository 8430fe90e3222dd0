use Rattle.std.proofs.Common.{◌≡◌, ◌++◌, [], map, drop}
use Rattle.ir_store.specs.Designs.{port_of}
use Rattle.export_verilog.specs.Written.{ports_named, ports_left}
use Rattle.export_verilog.proofs.ports.push_lines.Given as goal

abbrev pub invariant-loop-i : goal.invariant-loop-i
invariant-loop-i l =
    l.out ++ ports_left (ports_named (drop l.i l.names) (map port_of (drop l.i l.ports))) []
    ≡ l.initial.out ++ ports_left (ports_named l.names (map port_of l.ports)) []
