use Rattle.hw_model.specs.Types.{width, width_of_fields}
use Rattle.hw_model.specs.TypeViews.{fields_of}
use Rattle.hw_model.proofs.FieldSums.{width_more, field_more, field_all}
use Rattle.hw_model.proofs.types.+width.Goals as goal

pub FieldList::width-loop-field-preserved : goal.FieldList::width-loop-field-preserved
FieldList::width-loop-field-preserved t c =
    field_more (λ fs. width_of_fields (fields_of fs)) width 18446744073709551615 width_more
    c.deref-field-items.result.now c.loop-field.field-index c.field-item.result c.loop-field.sum c.width.result c.saturating_add-sum.result
    c.loop-field-test.true c.field-item.is c.loop-field.invariant c.width.ensures c.saturating_add-sum.ensures

pub FieldList::width-returns : goal.FieldList::width-returns
FieldList::width-returns t c =
    field_all width_of_fields 18446744073709551615 c.args.self.now c.deref-field-items.result.now c.loop-field.field-index c.loop-field.sum
    c.deref-field-items.ensures.value c.loop-field-test.false c.loop-field.invariant
