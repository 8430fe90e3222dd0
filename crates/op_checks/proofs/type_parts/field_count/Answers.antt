use Rattle.std.proofs.Common.{sym}
use Rattle.hw_model.specs.TypeViews.{field_of}
use Rattle.op_checks.proofs.Lists.{fields_counted}
use Rattle.op_checks.proofs.type_parts.field_count.Goals as goal

pub returns : goal.returns
returns c = sym (fields_counted field_of c.args.fields.now)
