use Rattle.std.proofs.Common.{length, ◌≡◌, rules}
use Rattle.hw_model.specs.Types.{leaves, leaves_of_fields, list_copies}
use Rattle.hw_model.specs.TypeViews.{fields_of, type_of}
use Rattle.hw_model.specs.declared.types.Ty.{the_lemmas}
use Rattle.hw_model.proofs.FieldSums.{leaves_more, field_more, field_all, capped_copies}
use Rattle.hw_model.proofs.types.+leaf_count.Goals as goal

pub FieldList::leaf_count-loop-field-preserved : goal.FieldList::leaf_count-loop-field-preserved
FieldList::leaf_count-loop-field-preserved t c =
    field_more (λ fs. length (leaves_of_fields (fields_of fs))) (λ t. length (leaves t)) 18446744073709551615 leaves_more
    c.deref-field-items.result.now c.loop-field.field-index c.field-item.result c.loop-field.sum c.leaf_count.result c.saturating_add-sum.result
    c.loop-field-test.true c.field-item.is c.loop-field.invariant c.leaf_count.ensures c.saturating_add-sum.ensures

pub FieldList::leaf_count-returns : goal.FieldList::leaf_count-returns
FieldList::leaf_count-returns t c =
    field_all (λ fs. length (leaves_of_fields fs)) 18446744073709551615 c.args.self.now c.deref-field-items.result.now c.loop-field.field-index c.loop-field.sum
    c.deref-field-items.ensures.value c.loop-field-test.false c.loop-field.invariant

pub Ty::leaf_count-returns-in-Array : goal.Ty::leaf_count-returns-in-Array
Ty::leaf_count-returns-in-Array t c =
    let e : leaves (type_of c.args.self.now) ≡ list_copies c.in-Array.length (leaves (type_of c.deref.result.now)) = search (rules, the_lemmas) in
    rw e (capped_copies c.in-Array.length (leaves (type_of c.deref.result.now)) c.from.result c.leaf_count.result c.saturating_mul.result 18446744073709551615
    c.from.ensures c.leaf_count.ensures c.saturating_mul.ensures)
