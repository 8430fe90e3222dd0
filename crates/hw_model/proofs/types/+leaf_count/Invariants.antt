use Rattle.std.proofs.Common.{◌≡◌, min, length, take, map}
use Rattle.hw_model.specs.Types.{leaves_of_fields}
use Rattle.hw_model.specs.TypeViews.{field_of, fields_of}
use Rattle.hw_model.proofs.types.+leaf_count.Given as goal

abbrev pub invariant-FieldList::leaf_count-loop-field :
    goal.invariant-FieldList::leaf_count-loop-field
invariant-FieldList::leaf_count-loop-field l = l.sum ≡ min (length (leaves_of_fields (fields_of (map field_of (take l.field-index l.field-items))))) 18446744073709551615
