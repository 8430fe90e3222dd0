use Rattle.std.proofs.Common.{take, map}
use Rattle.ir_store.specs.DictionaryViews.{attribute_of}
use Rattle.stored_form.specs.Bytes.{Each}
use Rattle.stored_form.specs.Limits.{IsAttribute}
use Rattle.stored_form.proofs.attributes.+attribute.Given as goal

abbrev pub invariant-are_attributes-loop-attribute : goal.invariant-are_attributes-loop-attribute
invariant-are_attributes-loop-attribute l = Each (λ a. IsAttribute a l.room) (map attribute_of (take l.attribute-index l.attributes))
