use Rattle.std.proofs.Common.{◌∷◌, List, map, Some, ap}
use Rattle.hw_model.specs.Types.{HwType}
use Rattle.hw_model.specs.Sound.{field_list}
use Rattle.hw_model.specs.TypeViews.{type_of, field_of, fields_of}
use Rattle.hw_model.specs.declared.types.Field.{Field}
use Rattle.hw_model.proofs.FieldSums.{type_field}
use Rattle.ir_store.specs.OperationViews.{result_of}
use Rattle.stored_form.proofs.Results.{typed_more, not_typed}
use Rattle.stored_form.proofs.result_types.have_types_of.Goals as goal

pub returns-in_default : goal.returns-in_default
returns-in_default c =
    let due = λ (fs : List Field). map Some (field_list (fields_of (map field_of fs))) in
    not_typed result_of (λ (f : Field). type_of f.ty) due (λ f fs. ap (λ (t : HwType). Some t ∷ due fs) (type_field f)) (map result_of c.args.results.now) (due c.args.fields.now) c.loop-field.rest.now
    c.args.fields.now c.loop-field.field-index c.field-item.result c.loop-field-test.true c.field-item.is c.loop-field.invariant c.in-Some.first.now c.in-Some.others.now c.eq.result
    c.in-Some.ensures.cases.0 c.eq.ensures c.if-eq.false

pub loop-field-preserved : goal.loop-field-preserved
loop-field-preserved c =
    let due = λ (fs : List Field). map Some (field_list (fields_of (map field_of fs))) in
    typed_more result_of (λ (f : Field). type_of f.ty) due (λ f fs. ap (λ (t : HwType). Some t ∷ due fs) (type_field f)) (map result_of c.args.results.now) (due c.args.fields.now) c.loop-field.rest.now
    c.args.fields.now c.loop-field.field-index c.field-item.result c.loop-field-test.true c.field-item.is c.loop-field.invariant c.in-Some.first.now c.in-Some.others.now c.eq.result
    c.in-Some.ensures.cases.0 c.eq.ensures c.if-eq.true
