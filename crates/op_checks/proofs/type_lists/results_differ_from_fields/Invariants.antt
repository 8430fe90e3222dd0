use Rattle.std.proofs.Common.{◌≡◌, map}
use Rattle.hw_model.specs.TypeViews.{type_of, field_of, fields_of}
use Rattle.hw_model.specs.Sound.{field_list}
use Rattle.op_checks.specs.TypeLists.{known_types, differ}
use Rattle.op_checks.proofs.type_lists.results_differ_from_fields.Given as goal

abbrev pub invariant-loop-one : goal.invariant-loop-one
invariant-loop-one l = differ (known_types (map (λ r. type_of r.ty) l.results)) (known_types (field_list (fields_of (map field_of l.fields))))
    ≡ differ (known_types (map (λ r. type_of r.ty) l.one-iterator.a.rest.now)) (known_types (field_list (fields_of (map field_of l.one-iterator.b.rest.now))))
