-- The ports that registers name as their asynchronous resets, and the ports that instances join to others.
use Rattle.std.specs.Prelude.{ℕ, zero, suc, cond, List, [], ◌∷◌, ◌++◌, map, length, flat_map, Option, Some, None, is_some, slice_get, option_and_then, option_map}
use Rattle.hw_model.specs.Types.{Name}
use Rattle.hw_model.specs.Kinds.{Instance}
use Rattle.hw_model.specs.Design.{Ref, Port, Op, Module, Design, instance_in}
use Rattle.hw_model.specs.Design.Ref.{port}
use Rattle.hw_model.specs.Flat.{ResetBy, async_reset_in, port_ref}
use Rattle.hw_model.specs.Sound.{ports_of}
use Rattle.ir_store.specs.Symbols.{symbol_position}
use Rattle.port_checks.specs.InstanceChecks.{instance_cause}
use Rattle.port_checks.specs.ResetPorts.{is_bit_input}
use Rattle.port_checks.specs.Numbers.{port_number}
use Rattle.port_checks.specs.Pairs.{Pair, pair_of}
use Rattle.port_checks.specs.declared.named.PortPosition.{PortPosition}

-- the port that a value is, where that is an input of type i1
abbrev pub bit_port : List Port → Option Ref → Option ℕ
bit_port ports (Some (port j)) = cond (is_bit_input (slice_get ports j)) (Some j) None
bit_port ports _ = None

-- what f makes of modules from a number on, one after another
abbrev pub made_from : {A : Type 0} → (ℕ → Module → List A) → ℕ → List Module → List A
made_from f i [] = []
made_from f i (m ∷ ms) = f i m ++ made_from f (suc i) ms

-- ---- what registers name

-- the i1 input that an operation names as its asynchronous reset
abbrev pub named_port : List Port → Op → Option ℕ
named_port ports o = bit_port ports (option_map (λ (r : ResetBy). r.signal) (async_reset_in o))

-- port j of module i
abbrev pub position_at : ℕ → ℕ → PortPosition
position_at i j = record { owner = i; port = j }

abbrev pub position_of : ℕ → Option ℕ → List PortPosition
position_of i None = []
position_of i (Some j) = position_at i j ∷ []

-- those that the operations of a module name
abbrev pub named_in : ℕ → Module → List PortPosition
named_in i m = flat_map (λ (o : Op). position_of i (named_port m.ports o)) m.body

-- ---- what instances join

-- the pairs of an instance's first n ports with what its operands join to them, by numbers: the module that is called has
-- a number and ports, and so has its caller
abbrev pub operand_pairs : List ℕ → ℕ → List Port → ℕ → List Port → List Ref → ℕ → List Pair
operand_pairs starts called ports caller outer operands zero = []
operand_pairs starts called ports caller outer operands (suc n) =
    operand_pairs starts called ports caller outer operands n
    ++ pair_of (port_number starts called n) (option_and_then (port_number starts caller) (bit_port outer (port_ref ports operands n)))

-- so with the module of a number, where there is one
abbrev pub found_pairs : Design → List ℕ → ℕ → List Port → List Ref → Option ℕ → List Pair
found_pairs d starts caller outer operands None = []
found_pairs d starts caller outer operands (Some called) =
    operand_pairs starts called (ports_of (slice_get d called)) caller outer operands (length (ports_of (slice_get d called)))

-- so with the module of a symbol
abbrev pub call_pairs : Design → List ℕ → ℕ → List Port → List Ref → Name → List Pair
call_pairs d starts caller outer operands symbol =
    found_pairs d starts caller outer operands (symbol_position symbol (map (λ (m : Module). m.symbol) d))

-- the pairs that an operation joins as an instance; other operations join none
abbrev pub called_pairs : Design → List ℕ → ℕ → List Port → List Ref → Option Instance → List Pair
called_pairs d starts caller outer operands None = []
called_pairs d starts caller outer operands (Some i) = call_pairs d starts caller outer operands i.symbol

-- the pairs that an operation joins as an instance that its module does not refuse; other operations join none
abbrev pub instance_pairs : Design → List ℕ → ℕ → List Port → Op → List Pair
instance_pairs d starts caller outer o =
    cond (is_some (instance_cause d o.types (instance_in o.kind))) [] (called_pairs d starts caller outer o.operands (instance_in o.kind))

-- those of a module
abbrev pub pairs_in : Design → List ℕ → ℕ → Module → List Pair
pairs_in d starts i m = flat_map (instance_pairs d starts i m.ports) m.body
