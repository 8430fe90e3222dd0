-- Each list that is opened takes one of the rooms.
use Rattle.std.proofs.Common.{◌+◌, ◌*◌, length}
use Rattle.ir_store.specs.DictionaryViews.{attribute_of}
use Rattle.mlir_syntax.specs.AttributeText.{attribute_text}
use Rattle.mlir_syntax.proofs.Lists.{Gathering}
use Rattle.mlir_syntax.proofs.reader.Reader.+attributes.Given as goal

abbrev pub decreases-attribute_text : goal.decreases-attribute_text
decreases-attribute_text l = 4 * l.room

abbrev pub decreases-some_attributes : goal.decreases-some_attributes
decreases-some_attributes l = 4 * l.room + 1

abbrev pub decreases-attributes_text : goal.decreases-attributes_text
decreases-attributes_text l = 4 * l.room + 2

abbrev pub decreases-list_text : goal.decreases-list_text
decreases-list_text l = 4 * l.room + 3

abbrev pub invariant-some_attributes-loop-attribute : goal.invariant-some_attributes-loop-attribute
invariant-some_attributes-loop-attribute l = Gathering attribute_of l.op (attribute_text l.room l.op) l.fn.self l.attributes.items l.self

abbrev pub decreases-some_attributes-loop-attribute : goal.decreases-some_attributes-loop-attribute
decreases-some_attributes-loop-attribute l = length l.self
