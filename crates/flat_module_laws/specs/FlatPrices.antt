-- How many gates a flat module may take, by the types of its values alone.
use Rattle.std.specs.Prelude.{ℕ, ◌+◌, List, [], ◌∷◌, map}
use Rattle.wiring.specs.Lists.{total}
use Rattle.hw_model.specs.Types.{Name, width}
use Rattle.hw_model.specs.Kinds.{Kind}
use Rattle.hw_model.specs.Design.{Ref, Port, OpResult, Op, Module, Design}
use Rattle.hw_model.specs.Flat.{registers, width_of}
use Rattle.hw_model.specs.Sound.{type_in, output_types}
use Rattle.operation_gates.specs.Prices.{price}
use Rattle.net_gates.specs.RegisterPrices.{registers_price}

-- the widths of values of a body; 0 of what is no value
abbrev pub operand_widths : List Port → List Op → List Ref → List ℕ
operand_widths ports os rs = map (λ r. width_of (type_in ports os r)) rs

-- the prices of a kind for each of an operation's results together, with operands of these widths
abbrev pub results_price : Kind → List ℕ → List OpResult → ℕ
results_price kind ns [] = 0
results_price kind ns (r ∷ rs) = price kind (width r.type) ns + results_price kind ns rs

-- the price of an operation of a body
abbrev pub op_price : List Port → List Op → Op → ℕ
op_price ports os o = results_price o.kind (operand_widths ports os o.operands) o.results

-- the price of a module: its operations'
abbrev pub module_price : Module → ℕ
module_price m = total (map (op_price m.ports m.body) m.body)

-- with its registers, which take a step
abbrev pub stepped_price : Design → Name → Module → ℕ
stepped_price d top m = module_price m + registers_price (registers d top)

-- how many bits the outputs of a module have
abbrev pub output_bits : Module → ℕ
output_bits m = total (map width (output_types m.ports))
