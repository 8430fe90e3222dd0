-- The type that an operation settles for its one result, as code tells it, and which operations have one result.
use Rattle.std.specs.Prelude.{Bool, true, false, Option, Some, None}
use Rattle.hw_model.specs.Types.{HwType}
use Rattle.hw_model.specs.Types.HwType.{int, array}
use Rattle.hw_model.specs.TypeViews.{type_of}
use Rattle.hw_model.specs.SameType.{same_type}
use Rattle.hw_model.specs.Kinds.{Kind}
use Rattle.hw_model.specs.Kinds.StructOp.{struct_explode}
use Rattle.hw_model.specs.Kinds.Kind.{on_struct, instance, output}
use Rattle.type_inference.specs.declared.settled_type.SettledType.{SettledType}
use Rattle.type_inference.specs.declared.settled_type.SettledType.TheVariants.{Missing, Given, Int, Array}

-- the type that a value of code stands for; None where none is settled
abbrev pub settled_of : SettledType → Option HwType
settled_of Missing = None
settled_of (Given t) = Some (type_of t.now)
settled_of (Int w) = Some (int w)
settled_of (Array n t) = Some (array n (type_of t.now))

-- whether the type is the settled one; where none is settled, this answer
abbrev pub is_settled_as : HwType → Option HwType → Bool → Bool
is_settled_as t None otherwise = otherwise
is_settled_as t (Some u) otherwise = same_type t u

-- whether operations of the kind have one result
abbrev pub has_one_result : Kind → Bool
has_one_result output = false
has_one_result (on_struct struct_explode) = false
has_one_result (instance i) = false
has_one_result _ = true
