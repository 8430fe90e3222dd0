use Rattle.command_line.specs.Arguments.{app_in}
use Rattle.command_line.proofs.Making.{gathered}
use Rattle.command_line.proofs.commands.with_subcommand.Goals as goal

pub returns-in-Ok : goal.returns-in-Ok
returns-in-Ok c = gathered c.args.command c.in-Ok.added (app_in c.args.subcommand.now) c.subcommand.result c.in-Ok.ensures c.subcommand.ensures
