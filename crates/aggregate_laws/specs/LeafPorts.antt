-- Ports by their leaves, each with a name of its own (CIRCT, HW dialect: `hw-lower-aggregates`).
use Rattle.std.specs.Prelude.{List, [], ◌∷◌, drop, Option, Some, None, slice_get}
use Rattle.std.specs.List.{flat_map}
use Rattle.hw_model.specs.Types.{Name}
use Rattle.hw_model.specs.Design.{Port}
use Rattle.fresh_names.specs.Fresh.{fresh}
use Rattle.aggregate_laws.specs.Leaves.{leaf_ports}
use Rattle.aggregate_laws.specs.Aggregates.{leaf_names}

-- the names that the leaves of ports want, in order
abbrev pub wanted_names : List Port → List Name
wanted_names ps = flat_map (λ (q : Port). leaf_names q.name q.type) ps

-- the names that they get: each its free one, in its turn
abbrev pub port_leaf_names : List Port → List Name
port_leaf_names ps = fresh [] (wanted_names ps)

-- a port with another name, where there is one
abbrev pub with_name : Option Name → Port → Port
with_name None q = q
with_name (Some name) q = record q { name = name }

-- ports with other names in order, as far as there are names
abbrev pub with_names : List Name → List Port → List Port
with_names names [] = []
with_names names (q ∷ ps) = with_name (slice_get names 0) q ∷ with_names (drop 1 names) ps

-- the leaves of ports, with their names
abbrev pub split_ports : List Port → List Port
split_ports ps = with_names (port_leaf_names ps) (flat_map leaf_ports ps)
