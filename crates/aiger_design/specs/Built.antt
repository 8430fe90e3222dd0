-- The design that a text in the AIGER format says: one module, in which each variable of the text is a value of one bit.
use Rattle.std.specs.Prelude.{ℕ, suc, ◌+◌, true, false, cond, Bool, List, [], ◌∷◌, ◌++◌, length, codes}
use Rattle.hw_model.specs.Types.{Name}
use Rattle.hw_model.specs.Types.HwType.{clock}
use Rattle.hw_model.specs.Design.{Port, Op, Module, Design}
use Rattle.aiger_laws.specs.declared.tree.Latch.{Latch}
use Rattle.aiger_laws.specs.Trees.{Aiger, variable}
use Rattle.aiger_design.specs.Operations.{one_bit, first_location, port_named, numbered, inverter_op}
use Rattle.aiger_design.specs.Positions.{User, users, constants, is_inverted, size, variable_ref, operands}

-- ---- ports

-- in %clock : !seq.clock, where there are latches
abbrev pub clock_ports : List Latch → List Port
clock_ports [] = []
clock_ports (l ∷ ls) = port_named (codes "clock") false clock ∷ []

-- in %iK : i1 for each input, of which the first has the number
abbrev pub input_ports : ℕ → List ℕ → List Port
input_ports k [] = []
input_ports k (l ∷ ls) = port_named (numbered (codes "i") k) false one_bit ∷ input_ports (suc k) ls

-- out oK : i1 for each output, of which the first has the number
abbrev pub output_ports : ℕ → List ℕ → List Port
output_ports k [] = []
output_ports k (l ∷ ls) = port_named (numbered (codes "o") k) true one_bit ∷ output_ports (suc k) ls

-- the ports, in order
abbrev pub imported_ports : Aiger → List Port
imported_ports t = clock_ports t.latches ++ (input_ports 0 t.inputs ++ output_ports 0 t.outputs)

-- ---- the body

-- an inverter for each literal that negates a variable
abbrev pub inverters : Aiger → List ℕ → List Op
inverters t [] = []
inverters t (l ∷ ls) = cond (is_inverted l) (inverter_op (variable_ref t (variable l)) ∷ inverters t ls) (inverters t ls)

-- the operations of a user, from a position on: inverters, and its own one
abbrev pub group : Aiger → ℕ → User → List Op
group t p u = inverters t u.literals ++ u.made (operands t p u.literals) ∷ []

-- the operations of users, from a position on
abbrev pub groups : Aiger → ℕ → List User → List Op
groups t p [] = []
groups t p (u ∷ us) = group t p u ++ groups t (p + size u) us

-- the operations, in order
abbrev pub imported_body : Aiger → List Op
imported_body t = constants t ++ groups t (length (constants t)) (users t)

-- ---- the design

-- the symbol of the module
abbrev pub imported_symbol : Name
imported_symbol = codes "aiger"

-- the module
abbrev pub imported_module : Aiger → Module
imported_module t = record {
  symbol = imported_symbol;
  is_private = false;
  ports = imported_ports t;
  dictionary = [];
  body = imported_body t;
  location = first_location;
}

-- the design that the tree of a text says
abbrev pub imported_design : Aiger → Design
imported_design t = imported_module t ∷ []

-- the module's inputs in a step in which the clock rises, from the bits of the text's inputs
abbrev pub clocked : List Latch → List Bool → List Bool
clocked [] inputs = inputs
clocked (l ∷ ls) inputs = true ∷ inputs
