use Rattle.std.proofs.Common.{sym}
use Rattle.hw_model.specs.KindViews.{literal_of}
use Rattle.op_checks.proofs.Lists.{literals_counted}
use Rattle.op_checks.proofs.literal_checks.literal_count.Goals as goal

pub returns : goal.returns
returns c = sym (literals_counted literal_of c.args.literals.now)
