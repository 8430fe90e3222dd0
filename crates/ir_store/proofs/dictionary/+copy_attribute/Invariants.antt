use Rattle.std.proofs.Common.{◌≡◌, take, map}
use Rattle.ir_store.specs.DictionaryViews.{attribute_of}
use Rattle.ir_store.proofs.dictionary.+copy_attribute.Given as goal

abbrev pub invariant-AttributeList::try_clone-loop-attribute : goal.invariant-AttributeList::try_clone-loop-attribute
invariant-AttributeList::try_clone-loop-attribute l = map attribute_of l.attributes.items ≡ map attribute_of (take l.attribute-index l.attribute-items)
