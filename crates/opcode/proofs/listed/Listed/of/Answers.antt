use Rattle.opcode.proofs.Names.{some_listed, none_listed}
use Rattle.opcode.proofs.listed.Listed.of.Goals as goal

pub returns-clause-some : goal.returns-clause-some
returns-clause-some c = some_listed c.args.name.now c.named_in.result c.named_in.ensures

pub returns-clause-none : goal.returns-clause-none
returns-clause-none c = none_listed c.args.name.now c.named_in.result c.named_in.ensures
