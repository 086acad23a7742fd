-- What clap's commands are that are built part by part.
use Rattle.std.proofs.Common.{◌≡◌, ◌+◌, ◌<◌, ℕ, List, length, Bool, true, false, ◌||◌, take, get_or, ap, ap₂, sym, refl, subst, ◌∙◌}
use Rattle.std.specs.List.{fold}
use Rattle.std.proofs.lemmas.List.Sums.{fold_more}
use Rattle.clap.specs.Words.{App, Rule, AddsArg, app_of, with_rule}
use Rattle.clap.specs.declared.builder.arg.Arg.{Arg}
use Rattle.clap.specs.declared.builder.command.Command.{Command}
use Rattle.command_words.specs.declared.commands.Argument.{Argument}
use Rattle.command_words.specs.declared.commands.CommandName.{CommandName}
use Rattle.command_words.specs.Program.{IsArgument, IsCommand, rule_for, with_arguments, with_command}

or_none : (x y : Bool) → y ≡ false → (x || y) ≡ x
or_none true y e = refl
or_none false y e = e

-- an argument that no other command shares adds its rule
adds_rule : (app : App) (rule : Rule) (old : Command) (arg : Arg) (new : Command) → IsArgument rule arg → IsCommand app old → AddsArg old arg new
    → IsCommand (with_rule app rule) new
adds_rule app rule old arg new one is adds = record {
  app = adds.shape one.local ∙ ap₂ (λ (a : App) (r : Rule). with_rule a r) is.app one.rule;
  local = adds.globals ∙ or_none _ arg.global one.local ∙ is.local;
}

-- one more of a list of arguments
pub one_more_argument : (app : App) (arguments : List Argument) (i : ℕ) (d : Argument) (old : Command) (arg : Arg) (new : Command) → i < length arguments
    → IsArgument (rule_for (get_or arguments i d)) arg
    → IsCommand (with_arguments app (take i arguments)) old → AddsArg old arg new → IsCommand (with_arguments app (take (i + 1) arguments)) new
one_more_argument app arguments i d old arg new below one is adds =
    let more = fold_more (λ (a : App) (x : Argument). with_rule a (rule_for x)) app arguments i d below in
    subst (λ (a : App). IsCommand a new) (sym more) (adds_rule (with_arguments app (take i arguments)) (rule_for (get_or arguments i d)) old arg new one is
    adds)

-- one more of a list of commands
pub one_more_command : (app : App) (names : List CommandName) (i : ℕ) (d : CommandName) (old new : Command) → i < length names
    → IsCommand (fold with_command app (take i names)) old
    → IsCommand (with_command (app_of old) (get_or names i d)) new → IsCommand (fold with_command app (take (i + 1) names)) new
one_more_command app names i d old new below is adds =
    let more = fold_more with_command app names i d below in
    subst (λ (a : App). IsCommand a new) (ap (λ (a : App). with_command a (get_or names i d)) is.app ∙ sym more) adds
