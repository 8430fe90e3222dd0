-- A design with the names of its modules and of their ports, as code holds them.
use Rattle.std.specs.Prelude.{◌≡◌, ℕ, List, length, Option, Some, option_map, slice_get}
use Rattle.hw_model.specs.Types.{Name}
use Rattle.hw_model.specs.Design.{Port, Module, Design}
use Rattle.export_verilog.specs.declared.named_design.PortNames.{PortNames}
use Rattle.export_verilog.specs.Held.{ArePortNames}

-- the names of some ports, in order
abbrev pub AreNamesOf : List Port → List Name → Type 0
AreNamesOf ps ns = (length ns ≡ length ps) × ArePortNames ps ns

-- so it is where there are names
abbrev pub AreNamesWhere : List Port → Option (List Name) → Type 0
AreNamesWhere ps found = (ns : List Name) → found ≡ Some ns → AreNamesOf ps ns

-- the names of the ports of one module, where they are there
abbrev pub ArePortsOf : Module → PortNames → Type 0
ArePortsOf m l = AreNamesWhere m.ports (option_map (λ (ns : _). ns.items) l.names)

-- those of each module of a design, in order
pub record ArePortsNamed (d : Design) (ls : List PortNames) : Type 0 where
  pub count : length ls ≡ length d
  pub named : (n : ℕ) (m : Module) (l : PortNames) → slice_get d n ≡ Some m → slice_get ls n ≡ Some l → ArePortsOf m l
