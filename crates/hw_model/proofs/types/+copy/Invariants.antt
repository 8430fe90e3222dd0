use Rattle.std.proofs.Common.{◌≡◌, take, map}
use Rattle.hw_model.specs.TypeViews.{field_of}
use Rattle.hw_model.proofs.types.+copy.Given as goal

abbrev pub invariant-FieldList::try_clone-loop-field : goal.invariant-FieldList::try_clone-loop-field
invariant-FieldList::try_clone-loop-field l = map field_of l.fields.items ≡ map field_of (take l.field-index l.field-items)
