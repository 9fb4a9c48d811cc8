-- The table of commands and options: what each is called, and what the parser is given of it.
use Rattle.std.specs.Prelude.{ℕ, ◌∷◌, List, [], Option, Some, true, codes, find}
use Rattle.std.specs.Str.{bytes_eq}
use Rattle.clap.specs.Lexer.{usize_max}
use Rattle.clap.specs.Walk.{Rule, Text}
use Rattle.clap.specs.Simple.{App, new_app, new_rule, with_rule, with_subcommand}
use Rattle.clap.specs.declared.builder.action.ArgAction.TheVariants.{SetTrue}
use Rattle.gomod_words.specs.declared.table.Argument.{Argument}
use Rattle.gomod_words.specs.declared.table.Argument.TheVariants as a
use Rattle.gomod_words.specs.declared.table.CommandName.{CommandName}
use Rattle.gomod_words.specs.declared.table.CommandName.TheVariants as n

-- the name of a command
abbrev pub name_in : CommandName → Text
name_in n.Fmt = codes "fmt"
name_in n.Edit = codes "edit"
name_in n.Graph = codes "graph"
name_in n.List = codes "list"
name_in n.Chain = codes "chain"
name_in n.Versions = codes "versions"

-- every command, in the order of help
abbrev pub commands : List CommandName
commands = n.Fmt ∷ n.Edit ∷ n.Graph ∷ n.List ∷ n.Chain ∷ n.Versions ∷ []

-- the command with this name
unfoldable pub command_named : Text → Option CommandName
command_named name = find (λ command. bytes_eq name (name_in command)) commands

-- the arguments of a command
abbrev pub arguments_in : CommandName → List Argument
arguments_in n.Fmt = a.FmtFile ∷ []
arguments_in n.Edit = a.EditFile ∷ a.Operations ∷ []
arguments_in n.Graph = a.RequiredProxy ∷ a.Mod ∷ a.Sum ∷ []
arguments_in n.List = a.RequiredProxy ∷ a.Mod ∷ a.Sum ∷ a.After ∷ a.Limit ∷ []
arguments_in n.Chain = a.RequiredProxy ∷ a.Mod ∷ a.Sum ∷ a.Path ∷ []
arguments_in n.Versions = a.Path ∷ a.Proxy ∷ a.Retracted ∷ []

-- the usage line of a command
abbrev pub usage_for : CommandName → List ℕ
usage_for n.Fmt = codes "gomod fmt <FILE>"
usage_for n.Edit = codes "gomod edit <FILE> <OP>..."
usage_for n.Graph = codes "gomod graph [OPTIONS] --proxy <DIR>[,DIR|DIR..]"
usage_for n.List = codes "gomod list [OPTIONS] --proxy <DIR>[,DIR|DIR..]"
usage_for n.Chain = codes "gomod chain [OPTIONS] --proxy <DIR>[,DIR|DIR..] <PATH>"
usage_for n.Versions = codes "gomod versions [OPTIONS] <PATH>"

-- a positional argument of this name, which must be given
abbrev pub positional_rule : Text → Rule
positional_rule name = record (new_rule name) { required = true; value_names = 1 }

-- an option `--NAME VALUE`, which may be left out
abbrev pub option_rule : Text → Rule
option_rule name = record (new_rule name) { long = Some name; value_names = 1 }

-- an option `--NAME VALUE`, which has this value if it is left out
abbrev pub default_option_rule : Text → Text → Rule
default_option_rule name value = record (option_rule name) { defaults = value ∷ [] }

-- a flag `--NAME`
abbrev pub flag_rule : Text → Rule
flag_rule name = record (new_rule name) { long = Some name; action = Some SetTrue }

-- an argument
abbrev pub rule_for : Argument → Rule
rule_for a.FmtFile = positional_rule (codes "file")
rule_for a.EditFile = positional_rule (codes "file")
rule_for a.Operations = record (positional_rule (codes "op")) {
  range = Some (record { start_inclusive = 1; end_inclusive = usize_max });
}
rule_for a.Path = positional_rule (codes "path")
rule_for a.Proxy = option_rule (codes "proxy")
rule_for a.RequiredProxy = record (option_rule (codes "proxy")) { required = true }
rule_for a.Mod = default_option_rule (codes "mod") (codes "go.mod")
rule_for a.Sum = option_rule (codes "sum")
rule_for a.After = option_rule (codes "after")
rule_for a.Limit = option_rule (codes "limit")
rule_for a.Retracted = flag_rule (codes "retracted")

-- the name of an argument
abbrev pub argument_name : Argument → Text
argument_name argument = (rule_for argument).id

-- a command with these arguments more
abbrev pub with_rules_for : App → List Argument → App
with_rules_for app [] = app
with_rules_for app (argument ∷ arguments) = with_rules_for (with_rule app (rule_for argument)) arguments

-- a command
abbrev pub app_in : CommandName → App
app_in command = with_rules_for (new_app (name_in command)) (arguments_in command)

-- a program with these commands more
abbrev pub with_commands : App → List CommandName → App
with_commands app [] = app
with_commands app (command ∷ commands) = with_commands (with_subcommand app (app_in command).top) commands

-- `gomod`, before its commands are added: it has a version, requires a command, and shows its help without words
abbrev pub bare_gomod : App
bare_gomod =
    let app = new_app (codes "gomod") in
    record app {
      top = record app.top { has_version = true; subcommand_required = true; arg_required_else_help = true };
    }

-- `gomod` with its commands
abbrev pub gomod_app : App
gomod_app = with_commands bare_gomod commands
