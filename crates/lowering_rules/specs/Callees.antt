-- The modules that instances name, in code.
use Rattle.std.specs.Prelude.{◌≡◌, List, map}
use Rattle.hw_model.specs.Design.{Port, Module}
use Rattle.ir_store.specs.Designs.{ports_in, design_of}
use Rattle.aggregate_laws.specs.LeafPorts.{split_ports}
use Rattle.lowering_rules.specs.declared.instances.Callees.{Callees}

-- the leaves of a module's ports
abbrev pub module_leaves : Module → List Port
module_leaves m = split_ports m.ports

-- the lists of ports are the leaves of the ports of each module, in order
pub record AreCallees (callees : Callees) : Type 0 where
  pub ports_are : map ports_in callees.ports.now ≡ map module_leaves (design_of callees.design.now)
