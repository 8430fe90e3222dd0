use Rattle.std.proofs.Common.{map, refl}
use Rattle.std.specs.Option.{option_map}
use Rattle.hw_model.specs.TypeViews.{type_of, field_of, fields_of}
use Rattle.hw_model.specs.Sound.{field_list}
use Rattle.op_checks.specs.TypeLists.{known_types, differ}
use Rattle.std.proofs.lemmas.Slice.Zip.{either_empty_from_Zip}
use Rattle.op_checks.proofs.Lists.{none_differ, ended}
use Rattle.op_checks.proofs.type_lists.differ_from_fields.Goals as goal

pub returns : goal.returns
returns c =
    ended (λ xs ys. differ (map (option_map (λ t. type_of t.now)) xs) (known_types (field_list (fields_of (map field_of ys)))))
    (differ (map (option_map (λ t. type_of t.now)) c.args.operands.now) (known_types (field_list (fields_of (map field_of c.args.fields.now)))))
    c.loop-operand.operand-iterator.a.rest.now c.loop-operand.operand-iterator.b.rest.now
    (λ ys. refl) (λ xs. none_differ (map (option_map (λ t. type_of t.now)) xs))
    (either_empty_from_Zip c.loop-operand.operand-iterator c.next.new.self c.next.result c.in-None.is c.next.ensures.steps)
    c.loop-operand.invariant
