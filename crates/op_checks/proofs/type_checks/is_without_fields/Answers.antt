use Rattle.std.proofs.Common.{◌∙◌, sym}
use Rattle.hw_model.specs.TypeViews.{field_of}
use Rattle.op_checks.proofs.Lists.{without_fields}
use Rattle.op_checks.proofs.type_checks.is_without_fields.Goals as goal

pub returns : goal.returns
returns c = c.is_empty.ensures ∙ sym (without_fields field_of c.args.fields.now)
