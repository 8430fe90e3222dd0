-- The names of the ports and registers of a flat module in Verilog.
use Rattle.std.specs.Prelude.{List, [], ◌∷◌, ◌++◌, map, codes}
use Rattle.std.specs.List.{filter}
use Rattle.hw_model.specs.Types.{Name}
use Rattle.hw_model.specs.Design.{Port, Op, is_register}
use Rattle.name_legalise.specs.Legal.{legal}

-- the name that a register wants: its own, or `_reg`
abbrev pub register_name : Name → Name
register_name [] = codes "_reg"
register_name (c ∷ cs) = c ∷ cs

-- the names that the registers of a body want
abbrev pub register_names : List Op → List Name
register_names os = map (λ (o : Op). register_name o.name) (filter is_register os)

-- those that the ports and the registers of a flat module want
abbrev pub wanted_names : List Port → List Op → List Name
wanted_names ps os = map (λ (p : Port). p.name) ps ++ register_names os

-- the legal names of all ports and then of the registers of a flat module
abbrev pub all_names : List Port → List Op → List Name
all_names ps os = legal (wanted_names ps os)
