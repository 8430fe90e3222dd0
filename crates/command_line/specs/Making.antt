-- Commands that are made piece by piece.
use Rattle.std.specs.Prelude.{◌≡◌, false, List}
use Rattle.clap.specs.Words.{App, Rule, app_of, with_rule}
use Rattle.clap.specs.declared.builder.Command.{Command}
use Rattle.command_line.specs.Arguments.{with_rules, with_apps}
use Rattle.clap.specs.declared.builder.Command.TheViews.{out-Command as fields_of}

-- a command of this form, with no argument for all its subcommands
pub record IsMade (app : App) (c : Command) : Type 0 where
  pub shape : app_of c ≡ app
  pub local : (fields_of c).has_globals ≡ false

-- the command with one more argument
pub record Grows (old : Command) (rule : Rule) (new : Command) : Type 0 where
  pub shape : app_of new ≡ with_rule (app_of old) rule
  pub globals : (fields_of new).has_globals ≡ (fields_of old).has_globals

-- the command with more arguments
pub record GrowsBy (old : Command) (rules : List Rule) (new : Command) : Type 0 where
  pub shape : app_of new ≡ with_rules (app_of old) rules
  pub globals : (fields_of new).has_globals ≡ (fields_of old).has_globals

-- the command with more subcommands
pub record Gathers (old : Command) (apps : List App) (new : Command) : Type 0 where
  pub shape : app_of new ≡ with_apps (app_of old) apps
  pub globals : (fields_of new).has_globals ≡ (fields_of old).has_globals
