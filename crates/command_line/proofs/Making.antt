-- Commands that got more arguments and subcommands.
use Rattle.std.proofs.Common.{◌≡◌, ◌∙◌, sym, ◌||◌, ◌<◌, ◌≤◌, ◌+◌, ℕ, false, List, [], ◌∷◌, length, map, drop, get_or, Result, Ok, Err, ap}
use Rattle.std.specs.Prelude.{IfOk}
use Rattle.std.proofs.lemmas.List.{at_drop_more, at_drop_all}
use Rattle.std.proofs.Math.Bool.{or-false}
use Rattle.clap.specs.Words.{AddsArg, AddsSubcommand, App, Rule, app_of, rule_of, with_rule, with_subcommand}
use Rattle.clap.specs.declared.builder.Arg.{Arg}
use Rattle.clap.specs.declared.builder.Command.{Command}
use Rattle.clap.specs.declared.builder.Command.TheViews.{out-Command as fields_of}
use Rattle.command_line.specs.declared.arguments.Argument.{Argument}
use Rattle.command_line.specs.declared.commands.Subcommand.{Subcommand}
use Rattle.command_line.specs.Arguments.{rule_in, app_in, with_rules, with_apps}
use Rattle.command_line.specs.Making.{IsMade, Grows, GrowsBy, Gathers}

-- ---- arguments

pub grown : {E : Type 0} (old : Command) (a : Arg) (rule : Rule) (r : Result Command E) → a.global ≡ false → rule_of a ≡ rule
    → IfOk r (AddsArg old a) → IfOk r (Grows old rule)
grown old a rule (Ok new) local form h = record {
  shape = h.shape local ∙ ap (with_rule (app_of old)) form;
  globals = h.globals ∙ ap (λ b. (fields_of old).has_globals || b) local ∙ or-false (fields_of old).has_globals;
}
grown old a rule (Err e) local form h = h

-- one argument of a table more, and the rest of the table
pub next_argument : (xs : List Argument) (i : ℕ) (d : Argument) (old new : Command) (whole : App) → i < length xs
    → Grows old (rule_in (get_or xs i d)) new → with_rules (app_of old) (map rule_in (drop i xs)) ≡ whole
    → with_rules (app_of new) (map rule_in (drop (i + 1) xs)) ≡ whole
next_argument xs i d old new whole within h was =
    ap (λ a. with_rules a (map rule_in (drop (i + 1) xs))) h.shape
    ∙ (sym (at_drop_more (λ rest. with_rules (app_of old) (map rule_in rest)) xs i d within) ∙ was)

pub last_argument : (xs : List Argument) (i : ℕ) (new : Command) (whole : App) → length xs ≤ i
    → with_rules (app_of new) (map rule_in (drop i xs)) ≡ whole → app_of new ≡ whole
last_argument xs i new whole past was = sym (at_drop_all (λ rest. with_rules (app_of new) (map rule_in rest)) xs i past) ∙ was

-- a new command with arguments
pub made_by : {E : Type 0} (start : App) (old : Command) (rules : List Rule) (r : Result Command E) → app_of old ≡ start → (fields_of old).has_globals ≡ false
    → IfOk r (GrowsBy old rules) → IfOk r (IsMade (with_rules start rules))
made_by start old rules (Ok new) is local h = record { shape = h.shape ∙ ap (λ a. with_rules a rules) is; local = h.globals ∙ local }
made_by start old rules (Err e) is local h = h

-- ---- subcommands

pub gathered : {E : Type 0} (old sub : Command) (app : App) (r : Result Command E) → IsMade app sub → IfOk r (AddsSubcommand old sub) → IfOk r (Gathers old (app ∷ []))
gathered old sub app (Ok new) is h = record {
  shape = h.shape is.local ∙ ap (λ (a : App). with_subcommand (app_of old) a.top) is.shape;
  globals = h.globals ∙ ap (λ b. (fields_of old).has_globals || b) is.local ∙ or-false (fields_of old).has_globals;
}
gathered old sub app (Err e) is h = h

-- one subcommand of a table more, and the rest of the table
pub next_subcommand : (xs : List Subcommand) (i : ℕ) (d : Subcommand) (old new : Command) (whole : App) → i < length xs
    → Gathers old (app_in (get_or xs i d) ∷ []) new → with_apps (app_of old) (map app_in (drop i xs)) ≡ whole
    → with_apps (app_of new) (map app_in (drop (i + 1) xs)) ≡ whole
next_subcommand xs i d old new whole within h was =
    ap (λ a. with_apps a (map app_in (drop (i + 1) xs))) h.shape
    ∙ (sym (at_drop_more (λ rest. with_apps (app_of old) (map app_in rest)) xs i d within) ∙ was)

pub last_subcommand : (xs : List Subcommand) (i : ℕ) (new : Command) (whole : App) → length xs ≤ i
    → with_apps (app_of new) (map app_in (drop i xs)) ≡ whole → app_of new ≡ whole
last_subcommand xs i new whole past was = sym (at_drop_all (λ rest. with_apps (app_of new) (map app_in rest)) xs i past) ∙ was

-- a command with subcommands
pub made_of : {E : Type 0} (start : App) (old : Command) (apps : List App) (r : Result Command E) → IsMade start old → IfOk r (Gathers old apps) → IfOk r (IsMade (with_apps start apps))
made_of start old apps (Ok new) is h = record { shape = h.shape ∙ ap (λ a. with_apps a apps) is.shape; local = h.globals ∙ is.local }
made_of start old apps (Err e) is h = h
