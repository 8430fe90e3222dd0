-- The arguments and the subcommands that the tables list, as `clap` reads them.
use Rattle.std.specs.Prelude.{Bool, Some, List, [], ◌∷◌, map}
use Rattle.clap.specs.Words.{App, Rule, Text, new_app, new_rule, with_rule, with_subcommand}
use Rattle.clap.specs.declared.builder.ArgAction.TheVariants.{SetTrue}
use Rattle.command_line.specs.declared.arguments.Argument.{Argument}
use Rattle.command_line.specs.declared.arguments.Form.{Form}
use Rattle.command_line.specs.declared.arguments.Form.TheVariants.{Positional, Letter, Named, Flag}
use Rattle.command_line.specs.declared.commands.Subcommand.{Subcommand}

-- an argument of this name that stands so among the words, asked for or not
abbrev pub rule_by : Text → Bool → Form → Rule
rule_by id wanted Positional = record (new_rule id) { required = wanted }
rule_by id wanted (Letter letter) = record (new_rule id) { short = Some letter; required = wanted }
rule_by id wanted Named = record (new_rule id) { long = Some id; required = wanted }
rule_by id wanted Flag = record (new_rule id) { long = Some id; action = Some SetTrue; required = wanted }

-- an argument of a table
abbrev pub rule_in : Argument → Rule
rule_in a = rule_by a.id.now a.is_required a.form

-- a command with these arguments in turn
abbrev pub with_rules : App → List Rule → App
with_rules a [] = a
with_rules a (r ∷ rs) = with_rules (with_rule a r) rs

-- a subcommand of a table
abbrev pub app_in : Subcommand → App
app_in s = with_rules (new_app s.name.now) (map rule_in s.arguments.now)

-- a command with these subcommands in turn
abbrev pub with_apps : App → List App → App
with_apps a [] = a
with_apps a (b ∷ bs) = with_apps (with_subcommand a b.top) bs
