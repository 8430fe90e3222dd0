use Rattle.std.proofs.Common.{◌≡◌, ◌++◌, map, drop}
use Rattle.hw_model.specs.Types.{leaves, leaves_of_fields, list_copies}
use Rattle.hw_model.specs.TypeViews.{type_of, field_of, fields_of}
use Rattle.lowering_rules.proofs.leaf_types.+leaf_types.Given as goal

abbrev pub invariant-push_element_leaves-loop-left : goal.invariant-push_element_leaves-loop-left
invariant-push_element_leaves-loop-left l =
    map type_of l.types.items ++ list_copies l.left (leaves (type_of l.element)) ≡ map type_of l.fn.types.items ++ list_copies l.length (leaves (type_of l.element))

abbrev pub decreases-push_element_leaves-loop-left : goal.decreases-push_element_leaves-loop-left
decreases-push_element_leaves-loop-left l = l.left

abbrev pub invariant-push_field_leaves-loop-field : goal.invariant-push_field_leaves-loop-field
invariant-push_field_leaves-loop-field l =
    map type_of l.types.items ++ leaves_of_fields (fields_of (map field_of (drop l.field-index l.fields))) ≡ map type_of l.fn.types.items ++ leaves_of_fields (fields_of (map field_of l.fields))
