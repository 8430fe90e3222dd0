-- What is kept of the types that an operation settles.
use Rattle.std.specs.Prelude.{List, map, Option, option_map}
use Rattle.hw_model.specs.Types.{HwType}
use Rattle.hw_model.specs.TypeViews.{type_of}
use Rattle.op_checks.specs.TypeLists.{known_types}
use Rattle.op_verifier.specs.declared.settled_types.Settled.{Settled}
use Rattle.op_verifier.specs.declared.settled_types.Settled.TheVariants.{Own, Made}

-- the types
abbrev pub types_settled : Settled → List (Option HwType)
types_settled (Own results) = known_types (map (λ r. type_of r.ty) results.now)
types_settled (Made types) = map (option_map type_of) types.items
