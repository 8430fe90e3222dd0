use Rattle.std.proofs.Common.{◌≡◌, ◌++◌, map, drop}
use Rattle.hw_model.specs.Design.{Port}
use Rattle.ir_store.specs.Designs.{port_of}
use Rattle.name_legalise.specs.Legal.{legal_after}
use Rattle.name_legalise.specs.LegalViews.{legal_names}
use Rattle.export_verilog.specs.PortValues.{port_values}
use Rattle.export_verilog.proofs.module_names.add_ports.Given as goal

abbrev pub invariant-loop-port : goal.invariant-loop-port
invariant-loop-port l = record {
  names : legal_names l.names ++ legal_after (legal_names l.names) (map (λ (p : Port). p.name) (map port_of (drop l.port-index l.ports)))
      ≡ legal_names l.initial.names ++ legal_after (legal_names l.initial.names) (map (λ (p : Port). p.name) (map port_of l.ports));
  list : l.list.items ++ legal_after (legal_names l.names) (map (λ (p : Port). p.name) (map port_of (drop l.port-index l.ports)))
      ≡ legal_after (legal_names l.initial.names) (map (λ (p : Port). p.name) (map port_of l.ports));
  values : l.values.ports.items ++ port_values (map port_of (drop l.port-index l.ports)) (legal_after (legal_names l.names) (map (λ (p : Port). p.name) (map port_of (drop l.port-index l.ports))))
      ≡ l.initial.values.ports.items ++ port_values (map port_of l.ports) (legal_after (legal_names l.initial.names) (map (λ (p : Port). p.name) (map port_of l.ports)));
  ops : l.values.ops ≡ l.initial.values.ops;
}
