use Rattle.std.proofs.Common.{◌≡◌, ◌++◌, map, drop}
use Rattle.hw_model.specs.Design.{Port}
use Rattle.ir_store.specs.Designs.{port_of}
use Rattle.export_verilog.proofs.legal_names.wanted_names.Given as goal

abbrev pub invariant-loop-port : goal.invariant-loop-port
invariant-loop-port l =
    l.wanted.items ++ map (λ (p : Port). p.name) (map port_of (drop l.port-index l.ports)) ≡ map (λ (p : Port). p.name) (map port_of l.ports)
