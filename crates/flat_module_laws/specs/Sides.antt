-- A flat module with its nets in order: its ports, then operation by operation the results (CIRCT, HW dialect: `hw.module`).
use Rattle.std.specs.Prelude.{◌≡◌, ℕ, false, List, [], ◌++◌, map, flat_map, length, Option, Some, None, slice_get}
use Rattle.hw_model.specs.Types.{Name}
use Rattle.hw_model.specs.Design.{Port, Op, Module, Design, find_module}
use Rattle.hw_model.specs.Design.Ref.{port, result}
use Rattle.hw_model.specs.Flat.{Net, net, instances, input_width, state}
use Rattle.hw_model.specs.Sound.{body_of, ports_of, output_types}
use Rattle.aggregate_laws.specs.Scalars.{has_aggregate_value}
use Rattle.op_verifier.specs.Verdict.{IsAccepted}
use Rattle.net_gates.specs.Miters.{Side}
use Rattle.graphs.specs.Orders.{numbers_from}
use Rattle.flat_module_laws.specs.Orders.{IsOrder}

-- the nets of a module's ports; that of an output port has no bits
abbrev pub port_nets : List Port → List Net
port_nets ports = map (λ j. net [] (port j)) (numbers_from 0 (length ports))

-- how many results an operation has that may be there
abbrev pub result_number : Option Op → ℕ
result_number None = 0
result_number (Some o) = length o.results

-- the nets of the results of the operation at a position
abbrev pub result_nets : List Op → ℕ → List Net
result_nets os i = map (λ k. net [] (result i k)) (numbers_from 0 (result_number (slice_get os i)))

-- the nets of the ports, then of the results of the operations at the positions of the list
abbrev pub flat_nets : List Port → List Op → List ℕ → List Net
flat_nets ports os order = port_nets ports ++ flat_map (result_nets os) order

-- the module of a symbol, with its nets by an order of its operations
abbrev pub side_of : Design → Name → List ℕ → Side
side_of d top order = record {
  design = d;
  top = top;
  nets = flat_nets (ports_of (find_module d top)) (body_of (find_module d top)) order;
}

-- the module of a symbol of an accepted design has no instances and no value of an aggregate type
pub record IsPlain (d : Design) (top : Name) (m : Module) : Type 0 where
  pub accepted : IsAccepted d
  pub found : find_module d top ≡ Some m
  pub alone : instances m.body ≡ []
  pub scalar : has_aggregate_value m ≡ false

-- so it is, and its operations stand in that order
pub record IsFlat (d : Design) (top : Name) (m : Module) (order : List ℕ) : Type 0 where
  pub plain : IsPlain d top m
  pub stands : IsOrder m.body order

-- two modules have as many bits of inputs and of content, and outputs of the same types
pub record AreAlike (d : Design) (s : Name) (m : Module) (e : Design) (t : Name) (n : Module) : Type 0 where
  pub inputs : input_width m.ports ≡ input_width n.ports
  pub held : state d s ≡ state e t
  pub outputs : output_types m.ports ≡ output_types n.ports
