use Rattle.std.proofs.Common.{◌↔◌, map, drop, Some}
use Rattle.hw_model.specs.Sound.{field_list}
use Rattle.hw_model.specs.TypeViews.{field_of, fields_of}
use Rattle.ir_store.specs.OperationViews.{result_of}
use Rattle.stored_form.specs.ResultTypes.{HaveTypes}
use Rattle.stored_form.proofs.result_types.have_types_of.Given as goal

abbrev pub invariant-loop-field : goal.invariant-loop-field
invariant-loop-field l =
    HaveTypes (map result_of l.results) (map Some (field_list (fields_of (map field_of l.fields))))
    ↔ HaveTypes (map result_of l.rest) (map Some (field_list (fields_of (map field_of (drop l.field-index l.fields)))))
