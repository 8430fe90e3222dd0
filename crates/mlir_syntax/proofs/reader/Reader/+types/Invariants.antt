-- Each type that is opened takes one of the rooms; within one room the calls go from the type to what stands in it.
use Rattle.std.proofs.Common.{◌+◌, ◌*◌, length}
use Rattle.hw_model.specs.TypeViews.{field_of}
use Rattle.mlir_syntax.specs.TypeText.{type_text, field_text}
use Rattle.mlir_syntax.proofs.Lists.{Gathering}
use Rattle.mlir_syntax.proofs.reader.Reader.+types.Given as goal

abbrev pub decreases-array_text : goal.decreases-array_text
decreases-array_text l = 8 * l.room + 3

abbrev pub decreases-boxed_element : goal.decreases-boxed_element
decreases-boxed_element l = 8 * l.room + 2

abbrev pub decreases-element_type : goal.decreases-element_type
decreases-element_type l = 8 * l.room + 1

abbrev pub decreases-field_text : goal.decreases-field_text
decreases-field_text l = 8 * l.room + 1

abbrev pub decreases-fields_text : goal.decreases-fields_text
decreases-fields_text l = 8 * l.room + 3

abbrev pub decreases-some_fields : goal.decreases-some_fields
decreases-some_fields l = 8 * l.room + 2

abbrev pub decreases-struct_text : goal.decreases-struct_text
decreases-struct_text l = 8 * l.room + 4

abbrev pub decreases-type_text : goal.decreases-type_text
decreases-type_text l = 8 * l.room

abbrev pub invariant-some_fields-loop-field : goal.invariant-some_fields-loop-field
invariant-some_fields-loop-field l = Gathering field_of l.op (field_text (type_text l.room l.op) l.op) l.fn.self l.fields.items l.self

abbrev pub decreases-some_fields-loop-field : goal.decreases-some_fields-loop-field
decreases-some_fields-loop-field l = length l.self
