use Rattle.command_line.specs.Arguments.{rule_in}
use Rattle.command_line.proofs.Making.{grown}
use Rattle.command_line.proofs.commands.with_argument.Goals as goal

pub returns : goal.returns
returns c = grown c.args.command c.arg_of.result (rule_in c.args.argument.now) c.arg.result c.arg_of.ensures.local c.arg_of.ensures.rule c.arg.ensures
