-- What a design stands for.
use Rattle.std.specs.Prelude.{ℕ, zero, suc, Bool, List, [], ◌∷◌, map}
use Rattle.hw_model.specs.Types.{Name}
use Rattle.hw_model.specs.TypeViews.{type_of}
use Rattle.hw_model.specs.Design.{Entry, Location}
use Rattle.hw_model.specs.Design as hw
use Rattle.ir_store.specs.declared.design.Port.{Port}
use Rattle.ir_store.specs.declared.design.PortList.{PortList}
use Rattle.ir_store.specs.declared.design.Module.{Module}
use Rattle.ir_store.specs.declared.design.Design.{Design}
use Rattle.ir_store.specs.DictionaryViews.{entries_in}
use Rattle.ir_store.specs.OperationViews.{location_of}
use Rattle.ir_store.specs.BodyOps.{BodyOp}
use Rattle.ir_store.specs.Bodies.{ops_of}
use Rattle.ir_store.specs.Numbered.{ops_by_position}

-- a port
abbrev pub port_of : Port → hw.Port
port_of p = record { name = p.name; is_output = p.out; type = type_of p.ty; again = p.again }

-- the ports of a list
abbrev pub ports_in : PortList → List hw.Port
ports_in l = map port_of l.ports.items

-- a module with its operations by ids
pub record StoredModule : Type 0 where
  pub symbol : Name
  pub is_private : Bool
  pub ports : List hw.Port
  pub dictionary : List Entry
  pub ops : List BodyOp
  pub location : Location

-- a module
abbrev pub module_of : Module → StoredModule
module_of m = record {
  symbol = m.symbol;
  is_private = m.private;
  ports = ports_in m.ports;
  dictionary = entries_in m.dictionary;
  ops = ops_of m.body;
  location = location_of m.location;
}

-- the modules of a design, in order
abbrev pub modules_of : Design → List StoredModule
modules_of d = map module_of d.modules.items

-- a module as the definitions speak of it
abbrev pub numbered_module : StoredModule → hw.Module
numbered_module m = record {
  symbol = m.symbol;
  is_private = m.is_private;
  ports = m.ports;
  dictionary = m.dictionary;
  body = ops_by_position m.ops;
  location = m.location;
}

-- the design that definitions speak of
abbrev pub design_of : Design → hw.Design
design_of d = map numbered_module (modules_of d)

-- the modules, one of them with other operations
abbrev pub with_ops : ℕ → List BodyOp → List StoredModule → List StoredModule
with_ops m ops [] = []
with_ops zero ops (one ∷ modules) = record one { ops = ops } ∷ modules
with_ops (suc m) ops (one ∷ modules) = one ∷ with_ops m ops modules
