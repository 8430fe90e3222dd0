use Rattle.std.proofs.Common.{◌≡◌, map}
use Rattle.hw_model.specs.TypeViews.{type_of}
use Rattle.op_checks.specs.TypeLists.{known_types, differ}
use Rattle.op_checks.proofs.type_lists.results_differ_from_types.Given as goal

abbrev pub invariant-loop-one : goal.invariant-loop-one
invariant-loop-one l = differ (known_types (map (λ r. type_of r.ty) l.results)) (known_types (map type_of l.types))
    ≡ differ (known_types (map (λ r. type_of r.ty) l.one-iterator.a.rest.now)) (known_types (map type_of l.one-iterator.b.rest.now))
