-- The names of the values of ports.
use Rattle.std.specs.Prelude.{cond, List, [], ◌∷◌, Option, Some, None}
use Rattle.hw_model.specs.Types.{Name}
use Rattle.hw_model.specs.Design.{Port}

-- the name of the value of a port of some name: an output port is no value
abbrev pub port_value : Port → Name → Option Name
port_value p n = cond p.is_output None (Some n)

-- the names of the values of ports of some names
abbrev pub port_values : List Port → List Name → List (Option Name)
port_values (p ∷ ps) (n ∷ ns) = port_value p n ∷ port_values ps ns
port_values _ _ = []
