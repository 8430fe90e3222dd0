use Rattle.std.proofs.Common.{◌≡◌, min, take, map}
use Rattle.hw_model.specs.Types.{width_of_fields}
use Rattle.hw_model.specs.TypeViews.{field_of, fields_of}
use Rattle.hw_model.proofs.types.+width.Given as goal

abbrev pub invariant-FieldList::width-loop-field : goal.invariant-FieldList::width-loop-field
invariant-FieldList::width-loop-field l = l.sum ≡ min (width_of_fields (fields_of (map field_of (take l.field-index l.field-items)))) 18446744073709551615
