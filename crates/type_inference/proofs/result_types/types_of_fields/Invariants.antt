use Rattle.std.proofs.Common.{◌≡◌, map, take}
use Rattle.std.specs.Option.{option_map}
use Rattle.hw_model.specs.TypeViews.{type_of}
use Rattle.type_inference.proofs.FieldTypes.{seen_type}
use Rattle.type_inference.proofs.result_types.types_of_fields.Given as goal

abbrev pub invariant-loop-field : goal.invariant-loop-field
invariant-loop-field l = map (option_map type_of) l.types.items ≡ map seen_type (take l.field-index l.fields)
