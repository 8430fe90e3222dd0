use Rattle.std.proofs.Common.{◌≡◌, ◌++◌, map, drop}
use Rattle.hw_model.specs.TypeViews.{type_of, field_of, fields_of}
use Rattle.aggregate_laws.specs.Aggregates.{leaf_names, element_names, field_names}
use Rattle.lowering_rules.proofs.leaf_texts.+leaf_names.Given as goal

abbrev pub invariant-push_element_names-loop-left : goal.invariant-push_element_names-loop-left
invariant-push_element_names-loop-left l =
    l.names.items ++ element_names (λ inner. leaf_names inner (type_of l.element)) l.name l.left ≡ l.fn.names.items ++ element_names (λ inner. leaf_names inner (type_of l.element)) l.name l.length

abbrev pub decreases-push_element_names-loop-left : goal.decreases-push_element_names-loop-left
decreases-push_element_names-loop-left l = l.left

abbrev pub invariant-push_field_names-loop-field : goal.invariant-push_field_names-loop-field
invariant-push_field_names-loop-field l =
    l.names.items ++ field_names l.name (fields_of (map field_of (drop l.field-index l.fields))) ≡ l.fn.names.items ++ field_names l.name (fields_of (map field_of l.fields))
