use Rattle.std.proofs.Common.{map}
use Rattle.hw_model.specs.TypeViews.{field_of, fields_of}
use Rattle.stored_form.specs.Bytes.{Each}
use Rattle.stored_form.specs.Fields.{IsField}
use Rattle.stored_form.specs.Limits.{AreFields}
use Rattle.stored_form.proofs.Lists.{not_each, each_all, same_fact}
use Rattle.stored_form.proofs.Nested.{each_field, fields_are}
use Rattle.stored_form.proofs.types.+fits.Goals as goal

pub are_fields-returns-then-not-is_field : goal.are_fields-returns-then-not-is_field
are_fields-returns-then-not-is_field t c =
    let fs = map field_of c.args.fields.now in
    same_fact (Each (IsField c.args.room) fs) (AreFields (fields_of fs) c.args.room) _
    (not_each (IsField c.args.room) field_of c.args.fields.now c.loop-field.field-index c.field-item.result c.is_field.result c.loop-field-test.true c.field-item.is c.is_field.ensures
    c.if-not-is_field.true)
    (fields_are fs c.args.room) (each_field fs c.args.room)

pub are_fields-returns : goal.are_fields-returns
are_fields-returns t c =
    let fs = map field_of c.args.fields.now in
    same_fact (Each (IsField c.args.room) fs) (AreFields (fields_of fs) c.args.room) _
    (each_all (IsField c.args.room) field_of c.args.fields.now c.loop-field.field-index c.loop-field-test.false c.loop-field.invariant)
    (fields_are fs c.args.room) (each_field fs c.args.room)
