use Rattle.std.proofs.Common.{map, ap, ◌∙◌}
use Rattle.std.proofs.lemmas.List.{take_all}
use Rattle.type_inference.proofs.FieldTypes.{seen_type, types_seen}
use Rattle.type_inference.proofs.result_types.types_of_fields.Goals as goal

pub returns : goal.returns
returns c =
    let all = take_all c.loop-field.field-index c.args.fields.now c.loop-field-test.false in
    c.loop-field.invariant ∙ ap (map seen_type) all ∙ types_seen c.args.fields.now
