use Rattle.std.proofs.Common.{map, refl}
use Rattle.hw_model.specs.TypeViews.{type_of, field_of, fields_of}
use Rattle.hw_model.specs.Sound.{field_list}
use Rattle.op_checks.specs.TypeLists.{known_types, differ}
use Rattle.std.proofs.lemmas.Slice.Zip.{either_empty_from_Zip}
use Rattle.op_checks.proofs.Lists.{none_differ, ended}
use Rattle.op_checks.proofs.type_lists.results_differ_from_fields.Goals as goal

pub returns : goal.returns
returns c =
    ended (λ xs ys. differ (known_types (map (λ r. type_of r.ty) xs)) (known_types (field_list (fields_of (map field_of ys)))))
    (differ (known_types (map (λ r. type_of r.ty) c.args.results.now)) (known_types (field_list (fields_of (map field_of c.args.fields.now)))))
    c.loop-one.one-iterator.a.rest.now c.loop-one.one-iterator.b.rest.now
    (λ ys. refl) (λ xs. none_differ (known_types (map (λ r. type_of r.ty) xs)))
    (either_empty_from_Zip c.loop-one.one-iterator c.next.new.self c.next.result c.in-None.is c.next.ensures.steps)
    c.loop-one.invariant
