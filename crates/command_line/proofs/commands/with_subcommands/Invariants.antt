use Rattle.std.proofs.Common.{◌≡◌, map, drop}
use Rattle.clap.specs.Words.{app_of}
use Rattle.clap.specs.declared.builder.Command.TheViews.{out-Command as fields_of}
use Rattle.command_line.specs.Arguments.{app_in, with_apps}
use Rattle.command_line.proofs.commands.with_subcommands.Given as goal

abbrev pub invariant-loop-subcommand : goal.invariant-loop-subcommand
invariant-loop-subcommand l = record {
  shape : with_apps (app_of l.command) (map app_in (drop l.subcommand-index l.subcommands)) ≡ with_apps (app_of l.initial.command) (map app_in l.subcommands);
  globals : (fields_of l.command).has_globals ≡ (fields_of l.initial.command).has_globals;
}
