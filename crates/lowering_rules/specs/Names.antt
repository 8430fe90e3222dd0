-- The names of the leaves of an operation, as a list.
use Rattle.std.specs.Prelude.{List, [], ◌∷◌, Option, Some, None}
use Rattle.hw_model.specs.Types.{Name, HwType}
use Rattle.hw_model.specs.Design.{Op, result_type}
use Rattle.aggregate_laws.specs.Aggregates.{leaf_names}

-- the names of the leaves of a name and a type; what has no name, and what has no type, gives none
abbrev pub names_of : Name → Option HwType → List Name
names_of [] t = []
names_of (c ∷ name) None = []
names_of (c ∷ name) (Some t) = leaf_names (c ∷ name) t

abbrev pub own_name_list : Op → List Name
own_name_list o = names_of o.name (result_type o 0)
