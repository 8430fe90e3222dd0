-- The names of the leaves of a module's inputs and registers in Verilog.
use Rattle.std.specs.Prelude.{◌≡◌, ℕ, Bool, false, cond, List, [], ◌∷◌, ◌++◌, length, take, drop, Option, Some, None, slice_get}
use Rattle.hw_model.specs.Types.{Name}
use Rattle.hw_model.specs.Design.{Port, Module, Design, find_module}
use Rattle.module_names.specs.ModuleNames.{all_names}
use Rattle.miter_blast.specs.FlatCopy.{IsFlatCopy}
use Rattle.miter_blast.specs.Leaves.{held_widths, input_widths}
use Rattle.miter_blast.specs.Comparisons.{leaf_widths}

-- of names of ports and of what comes after them, those that are of no output
abbrev pub input_names : List Port → List Name → List Name
input_names ps [] = []
input_names [] (n ∷ names) = n ∷ names
input_names (p ∷ ps) (n ∷ names) = cond p.is_output (input_names ps names) (n ∷ input_names ps names)

-- whether the port at a position is there, and is an output
abbrev pub is_output_port : Option Port → Bool
is_output_port None = false
is_output_port (Some p) = p.is_output

abbrev pub is_output_at : List Port → ℕ → Bool
is_output_at ps j = is_output_port (slice_get ps j)

-- the legal names of all ports and then of the registers of a flat module
abbrev pub legal_names : Module → List Name
legal_names m = all_names m.ports m.body

-- those of the leaves of inputs and of registers
abbrev pub leaf_names : Module → List Name
leaf_names m = input_names m.ports (legal_names m)

-- those of the inputs alone, in order
abbrev pub names_of_inputs : Module → List Name
names_of_inputs m = input_names m.ports (take (length m.ports) (legal_names m))

-- those of the registers alone, in order
abbrev pub names_of_registers : Module → List Name
names_of_registers m = drop (length m.ports) (legal_names m)

-- how many bits the leaves of inputs and then of registers of a flat module have, in order
abbrev pub flat_widths : Module → List ℕ
flat_widths m = input_widths m.ports ++ held_widths m.body

-- the names of the leaves of the module of a symbol: those of a flat copy, the inputs' first and then the registers', one for each
-- leaf; one by one these leaves are as wide as the module's
pub record AreLeafNames (d : Design) (a : Name) (names : List Name) : Type 0 where
  pub copy : Design
  pub is_copy : IsFlatCopy d a copy
  pub one : Module
  pub alone : copy ≡ one ∷ []
  pub are : names ≡ leaf_names one
  pub in_order : names ≡ names_of_inputs one ++ names_of_registers one
  pub inputs : length (names_of_inputs one) ≡ length (input_widths one.ports)
  pub registers : length (names_of_registers one) ≡ length (held_widths one.body)
  pub widths : (m : Module) → find_module d a ≡ Some m → flat_widths one ≡ leaf_widths d a m
