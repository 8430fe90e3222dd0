use Rattle.std.specs.Prelude.{codes}
use Rattle.clap.specs.Words.{new_app}
use Rattle.command_line.specs.Commands.{bare}
use Rattle.command_line.proofs.Making.{made_of}
use Rattle.command_line.proofs.commands.circt_command.Goals as goal

pub returns : goal.returns
returns c = made_of (bare (new_app (codes "circt"))) c.bare_command.result _ c.with_subcommands.result c.bare_command.ensures c.with_subcommands.ensures
