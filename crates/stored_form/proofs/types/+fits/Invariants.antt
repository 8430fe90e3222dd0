use Rattle.std.proofs.Common.{take, map}
use Rattle.hw_model.specs.TypeViews.{field_of}
use Rattle.stored_form.specs.Bytes.{Each}
use Rattle.stored_form.specs.Fields.{IsField}
use Rattle.stored_form.proofs.types.+fits.Given as goal

abbrev pub invariant-are_fields-loop-field : goal.invariant-are_fields-loop-field
invariant-are_fields-loop-field l = Each (IsField l.room) (map field_of (take l.field-index l.fields))
