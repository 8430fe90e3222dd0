use Rattle.std.proofs.Common.{map}
use Rattle.hw_model.specs.Design.{Attribute}
use Rattle.ir_store.specs.DictionaryViews.{attribute_of, attributes_of}
use Rattle.stored_form.specs.Bytes.{Each}
use Rattle.stored_form.specs.Limits.{IsAttribute, AreAttributes}
use Rattle.stored_form.proofs.Lists.{not_each, each_all, same_fact}
use Rattle.stored_form.proofs.Nested.{each_attribute, attributes_are}
use Rattle.stored_form.proofs.attributes.+attribute.Goals as goal

pub are_attributes-returns-then-not-is_attribute : goal.are_attributes-returns-then-not-is_attribute
are_attributes-returns-then-not-is_attribute t c =
    let xs = map attribute_of c.args.attributes.now in
    let P = λ (a : Attribute). IsAttribute a c.args.room in
    same_fact (Each P xs) (AreAttributes (attributes_of xs) c.args.room) _
    (not_each P attribute_of c.args.attributes.now c.loop-attribute.attribute-index c.attribute-item.result c.is_attribute.result c.loop-attribute-test.true c.attribute-item.is c.is_attribute.ensures
    c.if-not-is_attribute.true)
    (attributes_are xs c.args.room) (each_attribute xs c.args.room)

pub are_attributes-returns : goal.are_attributes-returns
are_attributes-returns t c =
    let xs = map attribute_of c.args.attributes.now in
    let P = λ (a : Attribute). IsAttribute a c.args.room in
    same_fact (Each P xs) (AreAttributes (attributes_of xs) c.args.room) _
    (each_all P attribute_of c.args.attributes.now c.loop-attribute.attribute-index c.loop-attribute-test.false c.loop-attribute.invariant)
    (attributes_are xs c.args.room) (each_attribute xs c.args.room)
