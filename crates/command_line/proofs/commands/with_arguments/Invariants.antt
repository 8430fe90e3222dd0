use Rattle.std.proofs.Common.{◌≡◌, map, drop}
use Rattle.clap.specs.Words.{app_of}
use Rattle.clap.specs.declared.builder.Command.TheViews.{out-Command as fields_of}
use Rattle.command_line.specs.Arguments.{rule_in, with_rules}
use Rattle.command_line.proofs.commands.with_arguments.Given as goal

abbrev pub invariant-loop-argument : goal.invariant-loop-argument
invariant-loop-argument l = record {
  shape : with_rules (app_of l.command) (map rule_in (drop l.argument-index l.arguments)) ≡ with_rules (app_of l.initial.command) (map rule_in l.arguments);
  globals : (fields_of l.command).has_globals ≡ (fields_of l.initial.command).has_globals;
}
