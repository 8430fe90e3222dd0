-- The names of a body's values.
use Rattle.std.specs.Prelude.{ℕ, List, Option, Some, None, slice_get}
use Rattle.hw_model.specs.Types.{Name}
use Rattle.hw_model.specs.Design.{Ref}
use Rattle.hw_model.specs.Design.Ref.{port, result, undefined}
use Rattle.verilog_expr.specs.declared.value_names.NameList.{NameList}
use Rattle.verilog_expr.specs.declared.value_names.ValueNames.{ValueNames}

-- the name at a position of a list, where one is there
abbrev pub flat_name : Option (Option Name) → Option Name
flat_name None = None
flat_name (Some n) = n

abbrev pub name_in : List (Option Name) → ℕ → Option Name
name_in ns i = flat_name (slice_get ns i)

abbrev pub result_name : Option NameList → ℕ → Option Name
result_name None k = None
result_name (Some l) k = name_in l.names.items k

-- the name of a value
abbrev pub named_of : ValueNames → Ref → Option Name
named_of v (port j) = name_in v.ports.items j
named_of v (result i k) = result_name (slice_get v.ops.items i) k
named_of v undefined = None
