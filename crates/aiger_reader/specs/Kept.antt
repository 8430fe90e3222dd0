-- What is kept of a text.
use Rattle.std.specs.Prelude.{◌≡◌, ℕ, nat_eq, cond, ◌||◌, ◌==◌, List, Option, Some, None, Result, Ok, Err}
use Rattle.std.specs.List.{list_any}
use Rattle.std.specs.HashMap.{get}
use Rattle.aiger_laws.specs.declared.fault.Fault.{Fault}
use Rattle.aiger_laws.specs.declared.fault.Fault.TheVariants.{OutOfRange, DefinedTwice}
use Rattle.aiger_laws.specs.Trees.{Aiger, variable}
use Rattle.aiger_laws.specs.Rows.{is_undefinable, is_beyond, is_driven}
use Rattle.aiger_laws.specs.Drivers as laws
use Rattle.aiger_reader.specs.declared.drivers.Driver.{Driver}
use Rattle.aiger_reader.specs.declared.drivers.Driver.TheVariants.{Input, Latch, Gate}
use Rattle.aiger_reader.specs.declared.drivers.Drivers.{Drivers}
use Rattle.aiger_reader.specs.declared.text.AigerText.{AigerText}

-- the driver, if there is one
abbrev pub driver_in : Option Driver → laws.Driver
driver_in None = laws.nothing
driver_in (Some (Input k)) = laws.input_bit k
driver_in (Some (Latch k)) = laws.held_bit k
driver_in (Some (Gate k)) = laws.gate_bit k

-- the driver of each variable
abbrev pub drivers_of : Drivers → ℕ → laws.Driver
drivers_of d v = driver_in (get nat_eq d.by_variable v)

-- the tree that is kept
abbrev pub tree_of : AigerText → Aiger
tree_of t = record { inputs = t.inputs.items; latches = t.latches.items; outputs = t.outputs.items; gates = t.gates.items }

-- the drivers are those of the tree
abbrev pub Knows : AigerText → Type 0
Knows t = (v : ℕ) → drivers_of t.drivers v ≡ laws.driver (tree_of t) v

-- what a line makes of the tree that was kept: another tree, or a fault
abbrev pub Adds : Result Aiger Fault → Option Fault → Aiger → Type 0
Adds says None new = says ≡ Ok new
Adds says (Some fault) new = says ≡ Err fault

-- the fault of a line that defines a literal and uses others, where variables have these drivers
abbrev pub driver_fault : ℕ → (ℕ → laws.Driver) → ℕ → List ℕ → Option Fault
driver_fault most drivers l used =
    cond (is_undefinable most l || list_any (is_beyond most) used) (Some OutOfRange) (cond (is_driven (drivers (variable l))) (Some DefinedTwice) None)

-- the driver gives the literal's variable its bit, or, at a fault, nothing changes
abbrev pub Defines : Option Fault → ℕ → laws.Driver → (ℕ → laws.Driver) → (ℕ → laws.Driver) → Type 0
Defines None l driver old new = (v : ℕ) → new v ≡ cond (variable l == v) driver (old v)
Defines (Some fault) l driver old new = (v : ℕ) → new v ≡ old v
