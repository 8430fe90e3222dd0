use Rattle.std.proofs.Common.{map}
use Rattle.clap.specs.Words.{new_app}
use Rattle.command_line.specs.Arguments.{rule_in}
use Rattle.command_line.proofs.Making.{made_by}
use Rattle.command_line.proofs.commands.subcommand_of.Goals as goal

pub returns : goal.returns
returns c =
    made_by (new_app c.args.subcommand.now.name.now) c.new-command.result (map rule_in c.args.subcommand.now.arguments.now) c.with_arguments.result
    c.new-command.ensures.app c.new-command.ensures.local c.with_arguments.ensures
